-- Free.
-- In order: where the merged block starts and ends; what is known where the rows are passed; each row, and what is left by the answer; its outcomes; the merged
-- image; the image that is left. Assumes nothing.
use Rattle.store.specs.Calls.{merge_of}
use Rattle.std.specs.Prelude.{ℕ, ◌+◌, ◌-◌, ◌^◌, ◌≤◌, ◌<◌, Bool, true, false, cond, ◌&&◌, ◌||◌, leb, ltb, eqb, replicate, Err, None, Ok, Option, Result, Some}
use Rattle.std.specs.Prelude.{List, ◌++◌}
use Rattle.std.proofs.Common.{sym, ◌∙◌, inl, inr, length-append, append_assoc, arith, le-ltb, lt-ltb, eq-eqb, ne_eqb, ltb-true, eqb-true}
use Rattle.std.proofs.Math.Path.{◌≡◌, refl, ap}
use Rattle.std.proofs.Math.Bool.{and-false}
use Rattle.std.proofs.Math.ListN.{length, take, drop}
use Rattle.std.proofs.lemmas.List.{length-replicate}
use Rattle.std.proofs.lemmas.Bool.{lt-leb, eqb-false}
use Rattle.frame.specs.Pointers.{unpack}
use Rattle.frame.specs.Tags.{entry_of}
use Rattle.block.specs.Layout.{superblock_good, slot_exponent, stored_total, with_total, sound, is_free, header_at, extent_at, size_at, fields, free_header}
use Rattle.block.specs.Bytes.{put}
use Rattle.block.specs.Walk.{walk_to}
use Rattle.block.specs.laws.Booleans.{by_bool, and_left}
use Rattle.block.specs.laws.Soundness.{sound_live, sound-extent, sound-end, sound_low, sound-free-at}
use Rattle.block.specs.laws.Superblock.{superblock_kept}
use Rattle.block.specs.laws.Total.{length-with_total, with_total_opens, with_total-header, stored_with_total, with_total-put}
use Rattle.block.specs.laws.WalkTo.{Behind, at_first, at_later, MeetsBlock, walk_to_meets}
use Rattle.block.specs.laws.Writes.{length-put, put_def, drop-put, put_again}
use Rattle.block.specs.laws.Headers.{length-header, header_at-drop, header_at-put_other}
use Rattle.store.specs.State.{State, outcome, refuse}
use Rattle.store.specs.Calls.{opening, noted, located, merge_start, merge_end, released, free_checks, released_at, total_fits, totalled, free_release, merged, given_back, freed, free}
use Rattle.store.specs.laws.Refusals.{demand_met, and_then_met}
use Rattle.store.specs.laws.Opening.{Open, opening_parts, entry_in}
use Rattle.store.specs.laws.TagReading.{Located, located_parts}
use Rattle.store.specs.laws.Total.{total-within}
use Rattle.store.specs.declared.answer.Refusal.{Refusal}
use Rattle.store.specs.declared.answer.Refusal.TheVariants.{Unsound, NotBase, WrongTotal}
use Rattle.store.specs.State.{Answer}
use Rattle.store.specs.declared.release.FreedBlock.{FreedBlock}

-- where the merged block starts

module _ (image : List ℕ) (h : ℕ) where
  -- with the object, where no free block ends there
  pub merge_start_here : (before : ℕ) → ltb 0 before && is_free image before ≡ false → merge_start image before h ≡ h
  unfolding merge_start
  merge_start_here before e = rw e

  -- with the free block before it
  pub merge_start-free : (before : ℕ) → 0 < before → is_free image before ≡ true → merge_start image before h ≡ before
  unfolding merge_start
  merge_start-free before l f = rw (lt-ltb 0 before l, f)

  -- by the kind of the block before it
  pub merge_start-behind : (before : ℕ) → 0 < before → merge_start image before h ≡ cond (is_free image before) before h
  unfolding merge_start
  merge_start-behind before l = rw (lt-ltb 0 before l) refl

-- and ends

module _ (image : List ℕ) (next : ℕ) where
  -- at the image's end
  pub merge_end_last : length image ≤ next → merge_end image next ≡ next
  unfolding merge_end
  merge_end_last l = rw (le-ltb _ _ l)

  -- with the free block that follows
  pub merge_end-free : next < length image → is_free image next ≡ true → merge_end image next ≡ next + extent_at image next
  unfolding merge_end
  merge_end-free l f = rw (lt-ltb _ _ l, f)

  -- before a live one
  pub merge_end_live : is_free image next ≡ false → merge_end image next ≡ next
  unfolding merge_end
  merge_end_live f = rw (f, and-false (ltb next (length image)))

  -- by the kind of the block that follows
  pub merge_end-next : next < length image → merge_end image next ≡ cond (is_free image next) (next + extent_at image next) next
  unfolding merge_end
  merge_end-next l = rw (lt-ltb _ _ l) refl

-- row 7

module _ (image : List ℕ) (h : ℕ) where
  -- the next header is sound, or there is none
  pub released_merges : (before : ℕ) → leb (length image) (h + extent_at image h) || sound image (h + extent_at image h) ≡ true
      → released image h (Some before) ≡ merge_of h (merge_start image before h) (merge_end image (h + extent_at image h))
  unfolding released
  released_merges before e = rw e

  -- it is unsound
  pub released_unsound : (before : ℕ) → leb (length image) (h + extent_at image h) || sound image (h + extent_at image h) ≡ false
      → released image h (Some before) ≡ Err Unsound
  unfolding released
  released_unsound before e = rw e

  -- the walk does not meet the object
  pub released_lost : released image h None ≡ Err Unsound
  unfolding released
  released_lost = refl

-- the merged block starts at h or below it, behind the superblock
merge_start_in : (image : List ℕ) (before h : ℕ) → Behind image before h → 16 ≤ h → (16 ≤ merge_start image before h) × (merge_start image before h ≤ h)
unfolding merge_start
merge_start_in image _ _ at_first l = (omega arith, omega arith)
merge_start_in image _ _ (at_later b w o) l =
    by_bool (ltb 0 b && is_free image b)
    (λ t. rw t (sound_low image b o, omega arith))
    (λ t. rw t (l, omega arith))

-- it ends at the next block's place or above it, in the image
merge_end_in : (image : List ℕ) (next : ℕ) → next ≤ length image → leb (length image) next || sound image next ≡ true → (next ≤ merge_end image next) × (merge_end image next ≤ length image)
unfolding merge_end
merge_end_in image next l e =
    by_bool (ltb next (length image) && is_free image next)
    (λ t.
    let below : next < length image = ltb-true _ _ (and_left _ (is_free image next) t) in
    let o : sound image next ≡ true = rw (lt-leb _ _ below) at e in
    rw t (omega arith, sound-end image next o))
    (λ t. rw t (omega arith, l))

-- the walk meets the block at h behind the one at `before`, the next header is sound where there is one, and this is where the merged block starts and ends
pub record Releases (image : List ℕ) (h from to before : ℕ) : Type 0 where
  pub meets : walk_to image h ≡ Some before
  pub next_good : leb (length image) (h + extent_at image h) || sound image (h + extent_at image h) ≡ true
  pub starts : from ≡ merge_start image before h
  pub ends : to ≡ merge_end image (h + extent_at image h)

-- what a release that merges was made of
released_parts : (image : List ℕ) (k h from to : ℕ) → released image k (walk_to image k) ≡ merge_of h from to → (h ≡ k) × (before : ℕ) × Releases image k from to before
unfolding released
released_parts image k h from to e = go (walk_to image k) refl e
  where
    ok : Bool
    ok = leb (length image) (k + extent_at image k) || sound image (k + extent_at image k)

    go : (m : Option ℕ) → walk_to image k ≡ m → released image k m ≡ merge_of h from to → (h ≡ k) × (before : ℕ) × Releases image k from to before
    go (Some before) p e =
        by_bool ok
        (λ t.
        let found : FreedBlock = record { header = k; from = merge_start image before k; to = merge_end image (k + extent_at image k) } in
        let wanted : FreedBlock = record { header = h; from = from; to = to } in
        let q : Ok found ≡ Ok wanted = rw t at e in
        let w : found ≡ wanted = cc in (
          sym (ap (λ (b : FreedBlock). b.header) w),
          before,
          record {
            meets = p;
            next_good = t;
            starts = sym (ap (λ (b : FreedBlock). b.from) w);
            ends = sym (ap (λ (b : FreedBlock). b.to) w);
          },
        ))
        (λ t. cc)
    go None p e = cc

-- the same, with the test that found the object
released_at_parts : (a : Answer) (image : List ℕ) (h from to : ℕ) → released_at a image ≡ merge_of h from to
    → (a ≡ Ok h) × (before : ℕ) × Releases image h from to before
unfolding released_at
released_at_parts (Ok k) image h from to e =
    let (q, before, r) = released_parts image k h from to e in
    rw q (refl, before, r)
released_at_parts (Err r) image h from to e = cc

-- the place in a release is that of the block that is asked for
pub released-place : (image : List ℕ) (h : ℕ) (b : FreedBlock) → released image h (walk_to image h) ≡ Ok b → b.header ≡ h
released-place image h b e = (released_parts image h b.header b.from b.to e).0

-- row 22

module _ (image : List ℕ) where
  -- it is passed
  pub totalled_merges : (h from to : ℕ) → total_fits image (extent_at image h) ≡ true → totalled (merge_of h from to) image ≡ merge_of h from to
  unfolding totalled
  totalled_merges h from to e = rw e refl

  -- it is not reached
  pub totalled-refused : (r : Refusal) → totalled (Err r) image ≡ Err r
  unfolding totalled
  totalled-refused r = refl

  -- a release that passed it
  totalled_parts : (a : Result FreedBlock Refusal) (h from to : ℕ) → totalled a image ≡ merge_of h from to
      → (a ≡ merge_of h from to) × (total_fits image (extent_at image h) ≡ true)
  unfolding totalled
  totalled_parts (Ok m) h from to e =
      by_bool (total_fits image (extent_at image m.header))
      (λ b.
      let wanted : FreedBlock = record { header = h; from = from; to = to } in
      let q : Ok m ≡ Ok wanted = rw b at e in
      let w : m ≡ wanted = cc in
      let is_place : m.header ≡ h = ap (λ (d : FreedBlock). d.header) w in
      (q, ap (λ (j : ℕ). total_fits image (extent_at image j)) (sym is_place) ∙ b))
      (λ b. let q : Err WrongTotal ≡ merge_of h from to = rw b at e in cc)
  totalled_parts (Err r) h from to e = cc

-- the rows of free are passed: the object at h goes, and a free block reaches from `from` to `to`
pub record Frees (word : ℕ) (x : State) (h from to : ℕ) : Type 0 where
  pub opens : Open x (slot_exponent x.image)
  pub object : Located (slot_exponent x.image) (unpack word) x h
  pub base : (unpack word).address ≡ h + 16
  pub before : ℕ
  pub merges : Releases x.image h from to before
  pub block : MeetsBlock x.image h before
  pub low : 16 ≤ from
  pub starts : from ≤ h
  pub ends : h + extent_at x.image h ≤ to
  pub room : from + 16 ≤ to
  pub high : to ≤ length x.image
  pub total : stored_total x.image + extent_at x.image h ≤ length x.image - 16
  pub inside : h + 16 + size_at x.image h ≤ length x.image
  pub indexed : entry_of (slot_exponent x.image) h (size_at x.image h) < length x.table

-- a free that merges passes them
pub free_parts : (word : ℕ) (x : State) (h from to : ℕ) → free_release word x ≡ merge_of h from to → Frees word x h from to
unfolding free_release free_checks
free_parts word x h from to e =
    let (m, fits) = totalled_parts x.image (released_at (free_checks word x) x.image) h from to e in
    let (a, before, r) = released_at_parts (free_checks word x) x.image h from to m in
    let (s, o, c) = and_then_met (opening x) _ h a in
    let (k, l, n) = and_then_met (located s (unpack word) x) _ h c in
    let d = demand_met (eqb (unpack word).address (k + 16)) NotBase _ h n in
    let g : h ≡ k = cc in
    let b : (unpack word).address ≡ h + 16 = eqb-true _ _ d.0 ∙ ap (λ (j : ℕ). j + 16) (sym g) in
    let q : s ≡ slot_exponent x.image = (opening_parts x s o).exponent in
    let op : Open x (slot_exponent x.image) = opening_parts x (slot_exponent x.image) (rw (← q) o) in
    let ob : Located (slot_exponent x.image) (unpack word) x h = located_parts (slot_exponent x.image) (unpack word) x h (rw (← q) (l ∙ ap Ok (sym g))) in
    let so = ob.header.is_sound in
    let w = walk_to_meets x.image h before r.meets in
    let end = sound-end x.image h so in
    let long = sound-extent x.image h so in
    let holds = (sound_live x.image h so ob.header.is_live_lem).holds in
    let f = merge_start_in x.image before h w.behind (sound_low x.image h so) in
    let t = merge_end_in x.image (h + extent_at x.image h) end r.next_good in
    let i : h + 16 + size_at x.image h ≤ length x.image = omega arith in
    record {
      opens = op;
      object = ob;
      base = b;
      before = before;
      merges = r;
      block = w;
      low = rw r.starts f.0;
      starts = rw r.starts f.1;
      ends = rw r.ends t.0;
      room = omega (arith, r.starts, r.ends, f.1, t.0);
      high = rw r.ends t.1;
      total = total-within x.image (extent_at x.image h) fits;
      inside = i;
      indexed = entry_in x (slot_exponent x.image) h (size_at x.image h) op i;
    }

-- The rows, and what is left by the answer.

module _ (word : ℕ) (x : State) where
  pub free-sound : (h : ℕ) → free_checks word x ≡ Ok h → sound x.image h ≡ true
  unfolding free_checks
  free-sound h e =
      let (s, o, m) = and_then_met (opening x) _ h e in
      let (k, l, n) = and_then_met (located s (unpack word) x) _ h m in
      let b = demand_met (eqb (unpack word).address (k + 16)) NotBase _ h n in
      let q : h ≡ k = cc in
      rw q (located_parts s (unpack word) x k l).header.is_sound

  -- row 4 or 5
  pub free_shut : (r : Refusal) → opening x ≡ Err r → Err r ≡ free_release word x
  unfolding free_release totalled released_at free_checks
  free_shut r e = rw e

  module _ (s : ℕ) (o : opening x ≡ Ok s) where
    -- row 10 or 11
    pub free-refused : (r : Refusal) → located s (unpack word) x ≡ Err r → Err r ≡ free_release word x
    unfolding free_release totalled released_at free_checks
    free-refused r e = rw (o, e)

    module _ (h : ℕ) (l : located s (unpack word) x ≡ Ok h) where
      -- row 15
      pub free_off_base : ((unpack word).address ≡ h + 16 → ⊥) → Err NotBase ≡ free_release word x
      unfolding free_release totalled released_at free_checks
      free_off_base n = rw (o, l, ne_eqb (unpack word).address (h + 16) n)

      -- then rows 7 and 22
      pub free-at_base : (unpack word).address ≡ h + 16 → totalled (released x.image h (walk_to x.image h)) x.image ≡ free_release word x
      unfolding free_release released_at free_checks
      free-at_base e = rw (o, l, eq-eqb (unpack word).address (h + 16) e)

  -- a refusal leaves all as it was
  pub free_declined : (r : Refusal) → free_release word x ≡ Err r → outcome (Err r) x.image x.table ≡ free word x
  unfolding free freed
  free_declined r e = rw e

  -- otherwise the blocks are merged, the object's extent given back, and the entry cleared
  pub free_done : (h from to s : ℕ) (image table : List ℕ) → free_release word x ≡ merge_of h from to → s ≡ slot_exponent x.image
      → image ≡ given_back x.image h from to → table ≡ noted s h (size_at x.image h) 0 x.table
      → outcome (Ok 0) image table ≡ free word x
  unfolding free freed
  free_done h from to s image table e k i t = rw (e, i, t, k)

-- What it comes to, where rows 4 and 5 are passed.

module _ (s : ℕ) (x : State) (o : opening x ≡ Ok s) where
  -- the tag does not lead to an object
  pub free_unread : (p : ℕ) (r : Refusal) → located s (unpack p) x ≡ Err r → free p x ≡ refuse r x
  free_unread p r e = sym (free_declined p x r (sym (free-refused p x s o r e)))

  module _ (p h : ℕ) (e : located s (unpack p) x ≡ Ok h) where
    -- the address is not the start of the body
    pub free_refuses_base : eqb (unpack p).address (h + 16) ≡ false → free p x ≡ refuse NotBase x
    free_refuses_base f = sym (free_declined p x NotBase (sym (free_off_base p x s o h e (eqb-false _ _ f))))

    module _ (f : eqb (unpack p).address (h + 16) ≡ true) where
      -- the walk meets an unsound header
      pub free_lost : (r : Refusal) → released x.image h (walk_to x.image h) ≡ Err r → free p x ≡ refuse r x
      free_lost r g =
          sym
          (free_declined p x r
          (sym (free-at_base p x s o h e (eqb-true _ _ f)) ∙ ap (λ (a : Result FreedBlock Refusal). totalled a x.image) g ∙ totalled-refused x.image r))

      -- the blocks are merged
      pub free_merges : (from to : ℕ) → slot_exponent x.image ≡ s → released x.image h (walk_to x.image h) ≡ merge_of h from to
          → total_fits x.image (extent_at x.image h) ≡ true
          → free p x ≡ outcome (Ok 0) (given_back x.image h from to) (noted s h (size_at x.image h) 0 x.table)
      free_merges from to q g t =
          sym
          (free_done p x h from to s _ _
          (sym (free-at_base p x s o h e (eqb-true _ _ f)) ∙ ap (λ (a : Result FreedBlock Refusal). totalled a x.image) g ∙ totalled_merges x.image h from to t)
          (sym q) refl refl)

-- The merged image.

module _ (image : List ℕ) (from to : ℕ) (room : from + 16 ≤ to) (high : to ≤ length image) where
  -- the bytes that are put
  abbrev free_block : List ℕ
  free_block = free_header (to - from) ++ replicate (to - from - 16) 0

  length_block : length free_block ≡ to - from
  length_block = simp (length-append, length-header, length-replicate) (omega arith)

  -- lie in the image
  block_fits : from + length free_block ≤ length image
  block_fits = omega (arith, length_block)

  -- keeps the length
  pub length_merged : length (merged image from to) ≡ length image
  unfolding merged
  length_merged = length-put image from free_block block_fits

  -- and changes only the bytes of the merged block
  pub merged_parts : merged image from to ≡ take from image ++ ((free_header (to - from) ++ replicate (to - from - 16) 0) ++ drop to image)
  unfolding merged
  merged_parts =
      let e : from + length free_block ≡ to = omega (arith, length_block) in
      put_def image from free_block ∙ ap (λ (n : ℕ). take from image ++ (free_block ++ drop n image)) e

  -- the headers behind it stay
  pub merged-behind : (k : ℕ) → to ≤ k → header_at (merged image from to) k ≡ header_at image k
  unfolding merged
  merged-behind k l = header_at-put_other image from free_block k block_fits (inr (omega (arith, length_block)))

  -- and those before it
  pub merged-before : (k : ℕ) → k + 16 ≤ from → header_at (merged image from to) k ≡ header_at image k
  unfolding merged
  merged-before k l = header_at-put_other image from free_block k block_fits (inl l)

  module _ (short : length image ≤ 2 ^ 30) where
    -- its own header is a free block's
    pub merged-header : header_at (merged image from to) from ≡ fields (to - from) 1 0 0 0
    unfolding merged
    merged-header =
        header_at-drop (put image from free_block) from (to - from) 1 0 0 0 _
        (drop-put image from free_block block_fits ∙ append_assoc (free_header (to - from)) (replicate (to - from - 16) 0) _)
        (record { extent_fits = omega arith; kind_fits = omega arith; type_fits = omega arith; size_fits = omega arith; cue_fits = omega arith })

    -- and sound
    pub merged-sound : 16 ≤ from → sound (merged image from to) from ≡ true
    merged-sound low =
        let n : length (merged image from to) ≡ length image = length_merged in
        sound-free-at (merged image from to) from (to - from) merged-header low (omega arith) (omega arith)

  -- the superblock stays
  pub merged_front : 16 ≤ from → (superblock_good (merged image from to) ≡ superblock_good image) × (slot_exponent (merged image from to) ≡ slot_exponent image)
  unfolding merged
  merged_front low = superblock_kept image from free_block block_fits (omega arith)

  -- the free total can be written before or after
  pub merged-with_total : (total : ℕ) → 16 ≤ from → merged (with_total image total) from to ≡ with_total (merged image from to) total
  unfolding merged
  merged-with_total total low = with_total-put image total (omega arith) from free_block low block_fits

  -- What is left: the merged image, with a higher free total.

  -- the merged image has room for a superblock
  merged_room : 16 ≤ length (merged image from to)
  merged_room = omega (arith, length_merged)

  -- of the object at h
  module _ (h : ℕ) where
    -- the length stays
    pub length-given_back : length (given_back image h from to) ≡ length image
    length-given_back = length-with_total (merged image from to) _ merged_room ∙ length_merged

    -- and all of the superblock but the total
    pub given_back_front : 16 ≤ from
        → (superblock_good (given_back image h from to) ≡ superblock_good image) × (slot_exponent (given_back image h from to) ≡ slot_exponent image)
    given_back_front low =
        let (good, same) = with_total_opens (merged image from to) _ merged_room in
        let (good-before, same-before) = merged_front low in
        (good ∙ good-before, same ∙ same-before)

    -- its headers are those of the merged image
    pub given_back-header : (k : ℕ) → 16 ≤ k → header_at (given_back image h from to) k ≡ header_at (merged image from to) k
    given_back-header k low = with_total-header (merged image from to) _ merged_room k low

    -- its free total is read back
    pub given_back-total : stored_total image + extent_at image h < 2 ^ 32 → stored_total (given_back image h from to) ≡ stored_total image + extent_at image h
    given_back-total small = stored_with_total (merged image from to) _ merged_room small

-- a longer block from the same place swallows it
pub merged_again : (image : List ℕ) (from to end : ℕ) → from + 16 ≤ to → to ≤ end → end ≤ length image → merged (merged image from to) from end ≡ merged image from end
unfolding merged
merged_again image from to end room l high =
    let n = length_block image from to room (omega arith) in
    let m = length_block image from end (omega arith) high in
    put_again image from (free_block image from to room (omega arith)) (free_block image from end (omega arith) high) (omega arith) (omega arith)
