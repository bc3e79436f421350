-- Allocate.
-- In order: the extent that is taken; what is known where its rows are passed; each row, and what is left by the answer; its outcomes; the carved image;
-- the image that is left. Assumes nothing.
use Rattle.std.specs.Prelude.{ℕ, ◌+◌, ◌^◌, ◌≤◌, ◌<◌, ◌-◌, ◌≡◌, true, false, List, leb, ltb, length, Err, Ok, Result}
use Rattle.std.proofs.Common.{sym, ap, ◌∙◌, arith, inl, leb-true, le-leb, ltb-true, lt-ltb, le-ltb, ltb-false}
use Rattle.std.proofs.Math.Path.{refl}
use Rattle.std.proofs.lemmas.Bool.{lt-leb}
use Rattle.frame.specs.Tags.{pointer_to, entry_of}
use Rattle.frame.specs.laws.Pointers.{pack_small}
use Rattle.frame.specs.laws.Tags.{tagged, pointer_range}
use Rattle.frame.specs.Pointers.{pack}
use Rattle.frame.specs.declared.parts.Pointer.{Pointer}
use Rattle.block.specs.laws.Booleans.{by_bool}
use Rattle.block.specs.Layout.{slot_exponent, stored_total, extent_at, free_header, live_header, fields, header_at}
use Rattle.block.specs.laws.Soundness.{sound-end}
use Rattle.block.specs.Walk.{first_fit, LowestFit}
use Rattle.block.specs.laws.FirstFit.{first_fit_lowest}
use Rattle.block.specs.Bytes.{put}
use Rattle.block.specs.laws.Writes.{length-put}
use Rattle.block.specs.laws.Headers.{length-header, header_at-put, header_at-put_other}
use Rattle.block.specs.laws.Superblock.{superblock_kept}
use Rattle.block.specs.laws.Total.{length-with_total, with_total_opens, with_total-header}
use Rattle.block.specs.declared.walk.Fit.{Fit}
use Rattle.store.specs.State.{State, Outcome, outcome, refuse}
use Rattle.store.specs.Calls.{opening, entry_holds, fit_answer, taken_extent, allocate_checks, carved, noted, allotted, allocate_for}
use Rattle.store.specs.laws.Refusals.{demand_met, and_then_met}
use Rattle.store.specs.laws.Opening.{Open, opening_parts, entry_in}
use Rattle.store.specs.declared.answer.Refusal.{Refusal}
use Rattle.store.specs.declared.answer.Refusal.TheVariants.{Unsound, NoSpace, EntryTaken, WrongTotal}
use Rattle.store.specs.State.{Answer}
use Rattle.store.specs.declared.allocation.Site.{Site}
use Rattle.frame.specs.declared.tag.Tagged.{Tagged}
use Rattle.block.specs.declared.walk.Fit.TheVariants as fit

-- The extent that is taken, for that of the free block that was read.

module _ (image : List ℕ) (h size extent : ℕ) (e : extent ≡ extent_at image h) where
  -- all of the block
  pub taken_whole : extent - (16 + size) < 16 → taken_extent image h size ≡ extent
  unfolding taken_extent
  taken_whole l = rw (← e, lt-ltb _ _ l) refl

  -- a rest stays free
  pub taken_rest : 16 ≤ extent - (16 + size) → taken_extent image h size ≡ 16 + size
  unfolding taken_extent
  taken_rest l = rw (← e, le-ltb _ _ l) refl

-- What is known where its rows are passed.

-- a fit that came through is a block's place
pub fit_met : (f : Fit) (next : ℕ → Answer) (v : ℕ) → fit_answer f next ≡ Ok v → (h : ℕ) × (f ≡ fit.At h) × (next h ≡ Ok v)
unfolding fit_answer
fit_met (fit.At h) next v e = (h, refl, e)
fit_met (fit.Unsound h) next v e = cc
fit_met fit.End next v e = cc

-- the rows of allocate are passed: an object of `size` bytes goes into the free block at h
pub record Allocates (size : ℕ) (x : State) (h : ℕ) : Type 0 where
  pub opens : Open x (slot_exponent x.image)
  pub found : first_fit x.image (16 + size) ≡ fit.At h
  pub lowest : LowestFit x.image (16 + size) h
  pub inside : h + 16 + size ≤ length x.image
  pub free_entry : entry_holds (slot_exponent x.image) h size 0 x.table ≡ true
  pub total_holds : taken_extent x.image h size ≤ stored_total x.image
  pub indexed : entry_of (slot_exponent x.image) h size < length x.table

-- an accepted allocation passes them
pub allocate_parts : (size : ℕ) (x : State) (h : ℕ) → allocate_checks size x ≡ Ok h → Allocates size x h
unfolding allocate_checks
allocate_parts size x h e =
    let (s, a, b) = and_then_met (opening x) _ h e in
    let o = opening_parts x s a in
    let (k, f, g) = fit_met (first_fit x.image (16 + size)) _ h b in
    let d = demand_met (entry_holds s k size 0 x.table) EntryTaken _ h g in
    let t = demand_met (leb (taken_extent x.image k size) (stored_total x.image)) WrongTotal _ h d.1 in
    let q : h ≡ k = cc in
    let w = first_fit_lowest x.image (16 + size) k f in
    let i : k + 16 + size ≤ length x.image = omega (arith, w.fits_in, sound-end x.image k w.is_sound) in
    let p : Open x (slot_exponent x.image) = rw (← o.exponent) o in
    rw q
    (record {
      opens = p;
      found = f;
      lowest = w;
      inside = i;
      free_entry = rw (← o.exponent) d.0;
      total_holds = leb-true _ _ t.0;
      indexed = entry_in x (slot_exponent x.image) k size p i;
    })

-- The rows, and what is left by the answer.

module _ (size : ℕ) (x : State) where
  -- row 4 or 5
  pub allocate_shut : (r : Refusal) → opening x ≡ Err r → Err r ≡ allocate_checks size x
  unfolding allocate_checks
  allocate_shut r e = rw e

  module _ (s : ℕ) (o : opening x ≡ Ok s) where
    -- row 7
    pub allocate_unsound : (h : ℕ) → first_fit x.image (16 + size) ≡ fit.Unsound h → Err Unsound ≡ allocate_checks size x
    unfolding allocate_checks fit_answer
    allocate_unsound h f = rw (o, f)

    -- row 8
    pub allocate_full : first_fit x.image (16 + size) ≡ fit.End → Err NoSpace ≡ allocate_checks size x
    unfolding allocate_checks fit_answer
    allocate_full f = rw (o, f)

    -- row 9
    pub allocate_taken : (h : ℕ) → first_fit x.image (16 + size) ≡ fit.At h → entry_holds s h size 0 x.table ≡ false → Err EntryTaken ≡ allocate_checks size x
    unfolding allocate_checks fit_answer
    allocate_taken h f t = rw (o, f, t)

    -- row 22
    pub allocate_wrong : (h : ℕ) → first_fit x.image (16 + size) ≡ fit.At h → entry_holds s h size 0 x.table ≡ true
        → stored_total x.image < taken_extent x.image h size → Err WrongTotal ≡ allocate_checks size x
    unfolding allocate_checks fit_answer
    allocate_wrong h f t l = rw (o, f, t, lt-leb _ _ l)

    -- all are passed
    pub allocate-given : (h : ℕ) → first_fit x.image (16 + size) ≡ fit.At h → entry_holds s h size 0 x.table ≡ true
        → taken_extent x.image h size ≤ stored_total x.image → Ok h ≡ allocate_checks size x
    unfolding allocate_checks fit_answer
    allocate-given h f t l = rw (o, f, t, le-leb _ _ l)

  -- a refusal leaves all as it was
  pub allocate_declined : (type cue : ℕ) (r : Refusal) → allocate_checks size x ≡ Err r → outcome (Err r) x.image x.table ≡ allocate_for size type cue x
  unfolding allocate_for
  allocate_declined type cue r e = rw e

  -- otherwise the block is carved, its extent taken from the total, and its entry noted
  pub allocate_done : (type cue h s word : ℕ) (p : Pointer) (image table : List ℕ) → allocate_checks size x ≡ Ok h → s ≡ slot_exponent x.image
      → image ≡ allotted x.image h size type cue → p ≡ pointer_to s h size → table ≡ noted s h size h x.table → word ≡ pack p
      → outcome (Ok word) image table ≡ allocate_for size type cue x
  unfolding allocate_for
  allocate_done type cue h s word p image table e k i q t w = rw (e, w, q, i, t, k)

-- an accepted one gives a pointer of 64 bits
pub allocate-word : (size type cue p : ℕ) (x : State) → (allocate_for size type cue x).answer ≡ Ok p → p < 2 ^ 64
allocate-word size type cue p x e = go (allocate_checks size x) refl
  where
    go : (a : Answer) → allocate_checks size x ≡ a → p < 2 ^ 64
    go (Err r) q =
        let d = ap (λ (o : Outcome). o.answer) (allocate_declined size x type cue r q) in
        let z : ◌≡◌ {A = ℕ} 0 1 = cc in
        absurd (omega arith)
    go (Ok h) q =
        let s : ℕ = slot_exponent x.image in
        let t = allocate_parts size x h q in
        let d = ap (λ (o : Outcome). o.answer) (allocate_done size x type cue h s (pack (pointer_to s h size)) _ _ _ q refl refl refl refl refl) in
        let w : p ≡ pack (pointer_to s h size) = cc in
        rw w (pack_small (pointer_to s h size) (pointer_range s h size t.opens.high (omega (arith, t.inside, t.opens.short))))

-- where a new object goes, with its pointer and entry
abbrev pub site_with : ℕ → Tagged → Result Site Refusal
site_with h t = Ok (record { header = h; tagged = t })

-- The answer of its tests, with the object's pointer and entry.
unfoldable pub site_of : ℕ → ℕ → Answer → Result Site Refusal
site_of s size (Ok h) = site_with h (tagged s h size)
site_of s size (Err r) = Err r

pub site_refused : (s size : ℕ) (r : Refusal) (a : Answer) → Err r ≡ a → Err r ≡ site_of s size a
unfolding site_of
site_refused s size r a e = rw (← e) refl

pub site_at : (s size h : ℕ) (t : Tagged) (a : Answer) → t ≡ tagged s h size → Ok h ≡ a → site_with h t ≡ site_of s size a
unfolding site_of
site_at s size h t a p e = rw (p, ← e) refl

-- and back
pub site_declined : (s size : ℕ) (a : Answer) (r : Refusal) → site_of s size a ≡ Err r → a ≡ Err r
unfolding site_of
site_declined s size (Ok h) r e = cc
site_declined s size (Err t) r e = let w : t ≡ r = cc in ap Err w

pub site_chosen : (s size : ℕ) (a : Answer) (h : ℕ) (t : Tagged) → site_of s size a ≡ site_with h t → (a ≡ Ok h) × (t ≡ tagged s h size)
unfolding site_of
site_chosen s size (Ok k) h t e =
    let chosen : Site = record { header = k; tagged = tagged s k size } in
    let wanted : Site = record { header = h; tagged = t } in
    let q : chosen ≡ wanted = cc in
    let p : k ≡ h = ap (λ (x : Site). x.header) q in
    (ap Ok p, sym (ap (λ (x : Site). x.tagged) q) ∙ ap (λ (j : ℕ). tagged s j size) p)
site_chosen s size (Err r) h t e = cc

-- What it comes to, where rows 4 and 5 are passed.

module _ (s : ℕ) (x : State) (o : opening x ≡ Ok s) (size type cue : ℕ) where
  -- no block fits
  pub allocate_refuses_full : first_fit x.image (16 + size) ≡ fit.End → allocate_for size type cue x ≡ refuse NoSpace x
  allocate_refuses_full f = sym (allocate_declined size x type cue NoSpace (sym (allocate_full size x s o f)))

  -- the block at h is taken
  pub allocate-at : (h : ℕ) → slot_exponent x.image ≡ s → first_fit x.image (16 + size) ≡ fit.At h → entry_holds s h size 0 x.table ≡ true
      → taken_extent x.image h size ≤ stored_total x.image
      → allocate_for size type cue x ≡ outcome (Ok (pack (pointer_to s h size))) (allotted x.image h size type cue) (noted s h size h x.table)
  allocate-at h q f g l =
      sym (allocate_done size x type cue h s _ _ _ _ (sym (allocate-given size x s o h f g l)) (sym q) refl refl refl refl)

-- The carved image.

-- carving, for an extent that was read

module _ (image : List ℕ) (h size type cue extent : ℕ) (e : extent ≡ extent_at image h) where
  -- all of the block is taken
  pub carved-whole : extent - (16 + size) < 16 → carved image h size type cue ≡ put image h (live_header extent type size cue)
  unfolding carved
  carved-whole l = rw (← e, lt-ltb _ _ l) refl

  -- the rest stays free
  pub carved_rest : 16 ≤ extent - (16 + size) → carved image h size type cue ≡ put (put image h (live_header (16 + size) type size cue)) (h + (16 + size)) (free_header (extent - (16 + size)))
  unfolding carved
  carved_rest l = rw (← e, le-ltb _ _ l) refl

-- the block that is carved, where the free one has room

module _ (image : List ℕ) (h size type cue : ℕ) (room : 16 + size ≤ extent_at image h) (inside : h + extent_at image h ≤ length image) where
  -- the live block, with a rest behind it
  abbrev live : List ℕ
  live = put image h (live_header (16 + size) type size cue)

  length-live : length live ≡ length image
  length-live = length-put image h (live_header (16 + size) type size cue) (omega (arith, length-header (16 + size) 2 type size cue))

  -- and the rest has room for its header
  rest_fits : 16 ≤ extent_at image h - (16 + size) → h + (16 + size) + length (free_header (extent_at image h - (16 + size))) ≤ length live
  rest_fits rest = omega (arith, length-live, length-header (extent_at image h - (16 + size)) 1 0 0 0)

  -- carving keeps the length
  pub length-carved : length (carved image h size type cue) ≡ length image
  length-carved =
      let extent : ℕ = extent_at image h in
      let n = length-header extent 2 type size cue in
      by_bool (ltb (extent - (16 + size)) 16)
      (λ t. ap length (carved-whole image h size type cue extent refl (ltb-true _ _ t)) ∙ length-put image h (live_header extent type size cue) (omega arith))
      (λ t.
      let rest : 16 ≤ extent - (16 + size) = ltb-false _ _ t in
      ap length (carved_rest image h size type cue extent refl rest)
      ∙ length-put live (h + (16 + size)) (free_header (extent - (16 + size))) (rest_fits rest)
      ∙ length-live)

  -- and the slot exponent
  pub carved_exponent : 16 ≤ h → slot_exponent (carved image h size type cue) ≡ slot_exponent image
  carved_exponent low =
      let extent : ℕ = extent_at image h in
      let n = length-header extent 2 type size cue in
      let m = length-header (16 + size) 2 type size cue in
      by_bool (ltb (extent - (16 + size)) 16)
      (λ t.
      ap slot_exponent (carved-whole image h size type cue extent refl (ltb-true _ _ t))
      ∙ (superblock_kept image h (live_header extent type size cue) (omega arith) (omega arith)).1)
      (λ t.
      let rest : 16 ≤ extent - (16 + size) = ltb-false _ _ t in
      ap slot_exponent (carved_rest image h size type cue extent refl rest)
      ∙ (superblock_kept live (h + (16 + size)) (free_header (extent - (16 + size))) (rest_fits rest) (omega arith)).1
      ∙ (superblock_kept image h (live_header (16 + size) type size cue) (omega arith) (omega arith)).1)

  -- its header: the extent that is taken, with at most 15 spare bytes, the type, the size and the cue
  pub record CarvedHeader : Type 0 where
    pub is_header : header_at (carved image h size type cue) h ≡ fields (taken_extent image h size) 2 type size cue
    pub holds : 16 + size ≤ taken_extent image h size
    pub tight : taken_extent image h size ≤ 31 + size
    pub ends : h + taken_extent image h size ≤ length image

  -- it can be read back
  pub carved-header : length image ≤ 2 ^ 30 → type < 2 ^ 16 → cue < 2 ^ 32 → CarvedHeader
  carved-header short fits cue_fits =
      let extent : ℕ = extent_at image h in
      let m = length-header (16 + size) 2 type size cue in
      by_bool (ltb (extent - (16 + size)) 16)
      (λ t.
      let few : extent - (16 + size) < 16 = ltb-true _ _ t in
      let taken : taken_extent image h size ≡ extent = taken_whole image h size extent refl few in
      record {
        is_header =
            ap (λ (i : List ℕ). header_at i h) (carved-whole image h size type cue extent refl few)
            ∙ header_at-put image h extent 2 type size cue (omega arith)
            (record { extent_fits = omega arith; kind_fits = omega arith; type_fits = fits; size_fits = omega arith; cue_fits = cue_fits })
            ∙ ap (λ (e : ℕ). fields e 2 type size cue) (sym taken);
        holds = omega arith;
        tight = omega arith;
        ends = omega arith;
      })
      (λ t.
      let rest : 16 ≤ extent - (16 + size) = ltb-false _ _ t in
      let taken : taken_extent image h size ≡ 16 + size = taken_rest image h size extent refl rest in
      record {
        is_header =
            ap (λ (i : List ℕ). header_at i h) (carved_rest image h size type cue extent refl rest)
            ∙ header_at-put_other live (h + (16 + size)) (free_header (extent - (16 + size))) h (rest_fits rest) (inl (omega arith))
            ∙ header_at-put image h (16 + size) 2 type size cue (omega arith)
            (record { extent_fits = omega arith; kind_fits = omega arith; type_fits = fits; size_fits = omega arith; cue_fits = cue_fits })
            ∙ ap (λ (e : ℕ). fields e 2 type size cue) (sym taken);
        holds = omega arith;
        tight = omega arith;
        ends = omega arith;
      })

  -- What is left: the carved image, with a lower free total.

  -- the carved image has room for a superblock
  carved_room : 16 ≤ length (carved image h size type cue)
  carved_room = omega (arith, length-carved)

  -- the length stays
  pub length-allotted : length (allotted image h size type cue) ≡ length image
  length-allotted = length-with_total (carved image h size type cue) _ carved_room ∙ length-carved

  -- and the slot exponent
  pub allotted_exponent : 16 ≤ h → slot_exponent (allotted image h size type cue) ≡ slot_exponent image
  allotted_exponent low = (with_total_opens (carved image h size type cue) _ carved_room).1 ∙ carved_exponent low

  -- its headers are those of the carved image
  pub allotted-header : (k : ℕ) → 16 ≤ k → header_at (allotted image h size type cue) k ≡ header_at (carved image h size type cue) k
  allotted-header k low = with_total-header (carved image h size type cue) _ carved_room k low
