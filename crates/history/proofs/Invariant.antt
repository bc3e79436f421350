-- What holds of image, table and abstract heap between any two calls of a list.
-- In order: the invariant; a live object in the image; what decides the image; what pointers lead to; another list of the objects; set-up. Not here: that each
-- call keeps it (`Steps`). Assumes nothing.
use Rattle.store.specs.State.{measured_as}
use Rattle.std.proofs.Common.{Ok, Option, None, Some, ℕ, ◌+◌, ◌-◌, ◌^◌, ◌≤◌, ◌≡◌, refl, Bool, true, false, cond, List, [], ◌++◌, length, take, drop, replicate, sym, ap, ◌∙◌, subst, arith, take-append-drop, length-append, length-drop, eq-eqb}
use Rattle.std.proofs.Math.IntN.{sub_ℕ}
use Rattle.std.proofs.Math.ListN.{length-replicate, get_or-replicate, get_or-append}
use Rattle.frame.specs.Pointers.{unpack, pack, good_tag}
use Rattle.frame.specs.Tags.{pointer_to, used_entries}
use Rattle.frame.specs.laws.Objects.{PointerOf, unpack_address}
use Rattle.frame.proofs.Objects.{own_pointer}
use Rattle.block.specs.Layout.{superblock, superblock_good, slot_exponent, stored_total, with_total, is_live, extent_at, size_at, cue_at}
use Rattle.block.specs.laws.Superblock.{superblock_front, exponent_front, total_front}
use Rattle.block.specs.laws.Total.{length-with_total, with_total-behind, with_total_front}
use Rattle.block.specs.declared.header.Header.{Header}
use Rattle.store.specs.State.{State, state, demand}
use Rattle.store.specs.Calls.{fresh, cleared, opening, header_place, leads_back, located, accessed, distances}
use Rattle.store.specs.laws.SetUp.{Settable, fresh_front}
use Rattle.store.specs.laws.Opening.{opening-passes}
use Rattle.store.specs.laws.TagReading.{Stands, Located, located_object, located_leads, located-at}
use Rattle.store.specs.laws.Access.{accessed-at}
use Rattle.store.specs.laws.Distances.{distances-located}
use Rattle.store.specs.declared.answer.Refusal.TheVariants.{OutOfBounds}
use Rattle.history.specs.Heap.{Object, Heap, start, holds, owner_of, inside}
use Rattle.history.specs.History.{header_of}
use Rattle.history.proofs.Gaps.{Block, extent, Layout, last, render, size, gaps, lookup, block_at, Placed, Remade}
use Rattle.history.proofs.Looks.{same_layout}
use Rattle.history.proofs.Image.{LiveAt, live_at, apart, placed-fresh, gaps_in}
use Rattle.history.proofs.Heap.{find, Distinct, Owned, owned}
use Rattle.history.proofs.Table.{nobody, Tabled, Ranged, other_heap}

-- what no call changes: the slot exponent and the image's length
pub record Shape (s L : ℕ) : Type 0 where
  pub exponent_low : 6 ≤ s
  pub exponent_high : s ≤ 15
  pub length_low : 64 ≤ L
  pub length_high : L ≤ 2 ^ 30

-- a live object whose header stands at k
pub record Fine (s k : ℕ) (o : Object) : Type 0 where
  pub answered : o.answer ≡ pack (pointer_to s k o.size)
  pub counted : length o.bytes ≡ o.size
  pub good : (p : ℕ) → holds o p ≡ true → PointerOf s k o.size p

-- what a block and an object must share: the cue and the bytes
pub data Content : Type 0 where
  content : (cue : ℕ) (bytes : List ℕ) → Content

abbrev pub block_content : Option Block → Option Content
block_content None = None
block_content (Some b) = Some (content b.cue b.body)

abbrev pub object_content : Option Object → Option Content
object_content None = None
object_content (Some o) = Some (content o.cue o.bytes)

-- an image of L bytes: a superblock, with the layout's gaps as its free total, and the layout
pub record Formatted (s L : ℕ) (image : List ℕ) (next : Layout) : Type 0 where
  pub long : length image ≡ L
  pub front : take 16 image ≡ superblock s L (gaps next)
  pub placed : Placed image next

-- the image is a superblock and a layout, whose gaps are the free total and whose live blocks are the heap's objects
pub record Laid (s L : ℕ) (image : List ℕ) (heap : Heap) : Type 0 where
  pub shape : Shape s L
  pub long : length image ≡ L
  pub layout : Layout
  pub front : take 16 image ≡ superblock s L (gaps layout)
  pub placed : Placed image layout
  pub agree : (k : ℕ) → block_content (block_at layout k) ≡ object_content (find heap k)
  pub fine : (k : ℕ) (o : Object) → find heap k ≡ Some o → Fine s k o
  pub distinct : Distinct heap

-- and the table has its large-framed ones
pub record Invariant (s L : ℕ) (x : State) (heap : Heap) : Type 0 where
  pub laid : Laid s L x.image heap
  pub tabled : Tabled s L heap x.table

-- A live object in the image.

-- its block there, its size, cue and extent, and that it lies in the image
pub record Known (s L : ℕ) (image : List ℕ) (heap : Heap) (i : Laid s L image heap) (k : ℕ) (o : Object) : Type 0 where
  pub block : Block
  pub there : block_at i.layout k ≡ Some block
  pub body : block.body ≡ o.bytes
  pub cue : block.cue ≡ o.cue
  pub live : LiveAt image k block
  pub size : size_at image k ≡ o.size
  pub cue_is : cue_at image k ≡ o.cue
  pub extent_is : extent_at image k ≡ extent block
  pub is_live_lem : is_live image k ≡ true
  pub high : k + 16 + o.size ≤ L
  pub fits : k + 16 + o.size ≤ 2 ^ 30
  pub begins : start o ≡ k + 16

module _ {s L : ℕ} {image : List ℕ} {heap : Heap} (i : Laid s L image heap) where
  pub known : (k : ℕ) (o : Object) → find heap k ≡ Some o → Known s L image heap i k o
  known k o e = go (block_at i.layout k) refl
    where
      go : (r : Option Block) → block_at i.layout k ≡ r → Known s L image heap i k o
      go None f = cc (i.agree k)
      go (Some b) f =
          let body : b.body ≡ o.bytes = cc (i.agree k) in
          let cue : b.cue ≡ o.cue = cc (i.agree k) in
          let live : LiveAt image k b = live_at image i.layout k b i.placed f in
          let n : length b.body ≡ o.size = ap length body ∙ (i.fine k o e).counted in
          let high : k + 16 + o.size ≤ L = omega (arith, live.high, i.long) in
          let fits : k + 16 + o.size ≤ 2 ^ 30 = omega (arith, i.shape.length_high) in
          record {
            block = b;
            there = f;
            body = body;
            cue = cue;
            live = live;
            size = ap (λ (d : Header). d.size) live.header ∙ n;
            cue_is = ap (λ (d : Header). d.cue) live.header ∙ cue;
            extent_is = ap (λ (d : Header). d.extent) live.header;
            is_live_lem = eq-eqb _ _ (ap (λ (d : Header). d.kind) live.header);
            high = high;
            fits = fits;
            begins = ap (λ (a : ℕ). (unpack a).address) (i.fine k o e).answered ∙ unpack_address s k o.size i.shape.exponent_high fits;
          }

  -- a live block of the layout is an object
  pub object_of : (k : ℕ) (b : Block) → block_at i.layout k ≡ Some b → (o : Object) × (find heap k ≡ Some o) × (o.cue ≡ b.cue) × (o.bytes ≡ b.body)
  object_of k b e = go (find heap k) refl
    where
      go : (r : Option Object) → find heap k ≡ r → (o : Object) × (find heap k ≡ Some o) × (o.cue ≡ b.cue) × (o.bytes ≡ b.body)
      go None f = cc (i.agree k)
      go (Some o) f = (o, f, cc (i.agree k), cc (i.agree k))

  -- where no block stands, no object does
  pub no_object : (k : ℕ) → block_at i.layout k ≡ None → find heap k ≡ None
  no_object k e = go (find heap k) refl
    where
      go : (r : Option Object) → find heap k ≡ r → find heap k ≡ None
      go None f = f
      go (Some o) f = cc (i.agree k)

  -- objects lie in the image, and apart
  pub ranged : Ranged L heap
  ranged =
      record {
        short = i.shape.length_high;
        high = λ k o e. (known k o e).high;
        apart =
            λ k j o o' e f l.
            let a = known k o e in
            let b = known j o' f in
            omega (arith, apart i.layout k j a.block b.block a.there b.there l, ap length a.body, (i.fine k o e).counted);
      }

  -- the superblock is good, and has the slot exponent and the free total

  in_front : superblock s L (gaps i.layout) ++ drop 16 image ≡ image
  in_front = ap (λ (q : List ℕ). q ++ drop 16 image) (sym i.front) ∙ take-append-drop 16 image

  pub superblock_is_good : superblock_good image ≡ true
  superblock_is_good =
      subst (λ (m : List ℕ). superblock_good m ≡ true) in_front
      (superblock_front s L (gaps i.layout) (drop 16 image) (simp length-drop (omega (arith, i.long, i.shape.length_low))) i.shape.exponent_low
      i.shape.exponent_high i.shape.length_low i.shape.length_high)

  pub exponent_is : slot_exponent image ≡ s
  exponent_is =
      subst (λ (m : List ℕ). slot_exponent m ≡ s) in_front (exponent_front s L (gaps i.layout) (drop 16 image) (omega (arith, i.shape.exponent_high)))

  pub total_is : stored_total image ≡ gaps i.layout
  total_is =
      subst (λ (m : List ℕ). stored_total m ≡ gaps i.layout) in_front
      (total_front s L (gaps i.layout) (drop 16 image) (omega (arith, gaps_in image i.layout i.placed, i.placed.short)))

  -- so it is formatted
  pub formatted : Formatted s L image i.layout
  formatted = record { long = i.long; front = i.front; placed = i.placed }

  -- another image with the same superblock
  pub remade : {image' : List ℕ} {next : Layout} → Remade image image' next → gaps next ≡ gaps i.layout → Formatted s L image' next
  remade m e = record { long = m.same_length ∙ i.long; front = m.same_front ∙ i.front ∙ ap (superblock s L) (sym e); placed = m.placed }

  -- the same with another free total
  pub retotalled : {image' : List ℕ} {next : Layout} (total : ℕ) → Remade image image' next → gaps next ≡ total → Formatted s L (with_total image' total) next
  retotalled {image'} total m e =
      let n : length image' ≡ L = m.same_length ∙ i.long in
      let room : 16 ≤ length image' = omega (arith, i.shape.length_low) in
      let long : length (with_total image' total) ≡ length image' = length-with_total image' total room in
      record {
        long = long ∙ n;
        front = with_total_front image' s L (gaps i.layout) total (m.same_front ∙ i.front) ∙ ap (superblock s L) (sym e);
        placed =
            record {
              good = m.placed.good;
              bytes = with_total-behind image' total room ∙ m.placed.bytes;
              whole = m.placed.whole ∙ sym long;
              short = omega (arith, m.placed.short);
            };
      }

  -- for another heap
  unfoldable pub relaid : {image' : List ℕ} {next : Layout} (new : Heap) → Formatted s L image' next
      → ((k : ℕ) → block_content (block_at next k) ≡ object_content (find new k)) → ((k : ℕ) (o : Object) → find new k ≡ Some o → Fine s k o) → Distinct new
      → Laid s L image' new
  relaid {next = next} new m a f d =
      record {
        shape = i.shape;
        long = m.long;
        layout = next;
        front = m.front;
        placed = m.placed;
        agree = a;
        fine = f;
        distinct = d;
      }

-- two agreeing changes agree
pub agree_cond : (b : Bool) (x x' : Option Block) (y y' : Option Object) → block_content x ≡ object_content y → block_content x' ≡ object_content y' → block_content (cond b x x') ≡ object_content (cond b y y')
agree_cond true x x' y y' e f = e
agree_cond false x x' y y' e f = f

-- What decides the image.

-- two formatted images of one length, with the same block at every place, are one
pub same-image : {s L : ℕ} {image image' : List ℕ} {l l' : Layout} → Formatted s L image l → Formatted s L image' l'
    → ((k : ℕ) → block_at l k ≡ block_at l' k) → image ≡ image'
same-image {s} {L} {image} {image'} {l} {l'} f f' looks =
    let long : size l ≡ size l' = omega (arith, f.placed.whole, f.long, f'.placed.whole, f'.long) in
    let same : l ≡ l' = same_layout 16 l l' long looks in
    let front : take 16 image ≡ take 16 image' = f.front ∙ ap (λ (m : Layout). superblock s L (gaps m)) same ∙ sym f'.front in
    let rest : drop 16 image ≡ drop 16 image' = f.placed.bytes ∙ ap render same ∙ sym f'.placed.bytes in
    sym (take-append-drop 16 image) ∙ (λ n. front n ++ rest n) ∙ take-append-drop 16 image'

-- What pointers lead to.

module _ {s L : ℕ} {x : State} {heap : Heap} (i : Invariant s L x heap) where
  -- rows 4 and 5 let every call pass
  pub opens : opening x ≡ Ok s
  opens =
      let e : slot_exponent x.image ≡ s = exponent_is i.laid in
      opening-passes x (superblock_is_good i.laid) (rw (e, i.laid.long) i.tabled.long) ∙ ap Ok e

  -- reading the pointer's tag finds the header at k
  pub record Leads (k p : ℕ) : Type 0 where
    pub tag : good_tag s (unpack p) ≡ true
    pub back : leads_back s (unpack p) x ≡ true
    pub place : header_place s (unpack p) x.table ≡ k
    pub found : located s (unpack p) x ≡ Ok k

  -- each pointer of a live object leads to its header
  pub leads : (k : ℕ) (o : Object) (p : ℕ) → find heap k ≡ Some o → PointerOf s k o.size p → Leads k p
  leads k o p e g =
      let n = known i.laid k o e in
      let stands : Stands s x k o.size =
      record {
        exponent = i.laid.shape.exponent_high;
        inside = omega (arith, n.high, i.laid.long);
        short = omega (arith, i.laid.long, i.laid.shape.length_high);
        is_sound = n.live.is_sound;
        is_live_lem = n.is_live_lem;
        size_is = n.size;
        entry = i.tabled.placed k o e;
      }
      in
      let l : Located s (unpack p) x k = located_object s x k o.size p stands g in
      record { tag = l.good; back = located_leads s (unpack p) x k l; place = sym l.place; found = located-at s (unpack p) x k l }

  -- allocate's answer leads to its object
  pub answer_leads : (k : ℕ) (o : Object) → find heap k ≡ Some o → located s (unpack o.answer) x ≡ Ok k
  answer_leads k o e =
      let n = known i.laid k o e in
      (leads k o o.answer e
      (rw (i.laid.fine k o e).answered (own_pointer s k o.size i.laid.shape.exponent_high n.fits))).found

  -- each pointer leads to its owner
  pub owner_leads : (p : ℕ) (o : Object) → owner_of heap p ≡ Some o → located s (unpack p) x ≡ Ok (header_of o)
  owner_leads p o e =
      let w : Owned heap p o = owned heap p o i.laid.distinct e in
      (leads (header_of o) o p w.found ((i.laid.fine (header_of o) o w.found).good p w.mine)).found

  -- n bytes through a pointer: refused exactly where they are not all inside its object
  pub accesses : (p : ℕ) (o : Object) (n : ℕ) → owner_of heap p ≡ Some o
      → accessed s (unpack p) n x ≡ demand (inside o p n) OutOfBounds (Ok (unpack p).address)
  unfolding inside
  accesses p o n e =
      let q = known i.laid (header_of o) o (owned heap p o i.laid.distinct e).found in
      accessed-at s (unpack p) n x (header_of o) (owner_leads p o e) ∙ rw (q.size, ← q.begins) refl

  -- the distances of a pointer are those from both ends of its object
  pub measures : (p : ℕ) (o : Object) → owner_of heap p ≡ Some o
      → distances p x ≡ measured_as (sub_ℕ (unpack p).address (start o)) (sub_ℕ (start o + o.size) (unpack p).address)
  measures p o e =
      let q = known i.laid (header_of o) o (owned heap p o i.laid.distinct e).found in
      distances-located x s opens p (header_of o) (owner_leads p o e) ∙ rw (q.size, ← q.begins) refl

-- The objects are listed in another way.

pub relisted : {s L : ℕ} {x : State} {heap : Heap} → Invariant s L x heap → (new : Heap) → Distinct new → ((k : ℕ) → find heap k ≡ find new k)
    → Invariant s L x new
relisted {s} {L} {x} {heap} i new d same =
    record {
      laid =
          relaid i.laid new (formatted i.laid)
          (λ k. i.laid.agree k ∙ ap object_content (same k)) (λ k o e. i.laid.fine k o (same k ∙ e)) d;
      tabled = other_heap s L heap new x.table i.tabled same;
    }

-- Set-up.

-- what it leaves has the invariant, with no object
pub begins_with : (s : ℕ) (x : State) (u : Settable s x)
    → Invariant s (length x.image)
    (state (fresh s (length x.image)) (cleared s (length x.image) x.table)) []
unfolding find lookup
begins_with s x u =
    let L : ℕ = length x.image in
    let used : ℕ = used_entries s L in
    let p : Placed (fresh s L) (last (L - 16)) = placed-fresh s L u.length_low u.length_high in
    record {
      laid = record {
        shape = record { exponent_low = u.exponent_low; exponent_high = u.exponent_high; length_low = u.length_low; length_high = u.length_high };
        long = omega (arith, p.whole, u.length_low);
        layout = last (L - 16);
        front = fresh_front s L;
        placed = p;
        agree = λ k. refl;
        fine = λ k o e. cc;
        distinct = tt;
      };
      tabled = record {
        long = simp (length-append, length-replicate) (omega arith);
        placed = λ k o e l. cc;
        entry = λ j l. nobody (get_or-append (replicate used 0) (drop used x.table) 0 j (simp length-replicate l) ∙ get_or-replicate used j 0 0 l);
      };
    }
