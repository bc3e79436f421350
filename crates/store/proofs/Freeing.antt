-- One free where the block before the object is known: what it leaves, found without a walk. Assumes nothing.
use Rattle.store.specs.Calls.{merge_of}
use Rattle.std.specs.Prelude.{Ok, Result, ℕ, ◌+◌, ◌-◌, ◌^◌, ◌≤◌, ◌≡◌, refl, true, ◌||◌, List, leb, length}
use Rattle.std.proofs.Common.{sym, ap, ◌∙◌, subst, arith, lt-ltb, eq-eqb}
use Rattle.frame.specs.Pointers.{unpack, pack}
use Rattle.frame.specs.Tags.{pointer_to}
use Rattle.frame.specs.laws.Objects.{unpack_address}
use Rattle.frame.proofs.Objects.{own_pointer}
use Rattle.block.specs.laws.Booleans.{by_bool}
use Rattle.block.specs.Layout.{slot_exponent, stored_total, header_at, extent_at, size_at, is_free, is_live, sound}
use Rattle.block.specs.laws.Soundness.{sound-same, sound_low, sound-end, sound_live}
use Rattle.block.specs.Walk.{walk_to, OnWalk}
use Rattle.block.specs.laws.Walks.{on_walk_kept}
use Rattle.block.specs.laws.WalkTo.{Behind, at_first, at_later, behind_on_walk, behind_met}
use Rattle.block.specs.declared.header.Header.{Header}
use Rattle.store.specs.State.{State, state, outcome}
use Rattle.store.specs.Calls.{opening, entry_holds, noted, located, merge_start, merge_end, merged, released, total_fits, totalled, given_back, free}
use Rattle.store.specs.laws.Opening.{Open, opening_parts, opening-passes}
use Rattle.store.specs.laws.Entries.{entry_held, holds_kept, length-noted}
use Rattle.store.specs.laws.TagReading.{Stands, located_object, located-at}
use Rattle.store.specs.laws.Free.{Frees, free_parts, free-at_base, free_merges, merge_start_here, merge_start-free, released_merges, totalled_merges, length_merged, merged-behind, merged-before, merged-header, merged-sound, length-given_back, given_back_front, given_back-header, given_back-total}
use Rattle.store.specs.laws.Total.{total_fits_lem}
use Rattle.store.specs.declared.release.FreedBlock.{FreedBlock}
use Rattle.store.proofs.Remains.{SameFrom}
use Rattle.store.specs.declared.answer.Refusal.{Refusal}

-- a live block of x at h whose entry leads back, behind the block at `before`, and with a sound header or the image's end behind it; the total has room
-- for its extent
pub record Freeable (s : ℕ) (x : State) (before h : ℕ) : Type 0 where
  pub opens : opening x ≡ Ok s
  pub behind : Behind x.image before h
  pub is_sound : sound x.image h ≡ true
  pub is_live_lem : is_live x.image h ≡ true
  pub holds : entry_holds s h (size_at x.image h) h x.table ≡ true
  pub next_good : leb (length x.image) (h + extent_at x.image h) || sound x.image (h + extent_at x.image h) ≡ true
  pub total : stored_total x.image + extent_at x.image h ≤ length x.image - 16

-- the merged block starts on the walk
merge_start_on_walk : {image : List ℕ} {before h : ℕ} → Behind image before h → OnWalk image (merge_start image before h)
merge_start_on_walk {image} at_first = rw (merge_start_here image 16 0 refl) (behind_on_walk at_first)
merge_start_on_walk {image} (at_later b w o) =
    let low = sound_low image b o in
    let h : ℕ = b + extent_at image b in
    by_bool (is_free image b)
    (λ e. rw (merge_start-free image h b (omega arith) e) w)
    (λ e. rw (merge_start_here image h b (rw (e, lt-ltb 0 b (omega arith)))) (behind_on_walk (at_later b w o)))

module _ {s : ℕ} {x : State} {before h : ℕ} (f : Freeable s x before h) where
  -- from where to where it merges
  abbrev pub from : ℕ
  from = merge_start x.image before h

  abbrev pub to : ℕ
  to = merge_end x.image (h + extent_at x.image h)

  -- what its free leaves
  abbrev pub without : State
  without = state (given_back x.image h from to) (noted s h (size_at x.image h) 0 x.table)

  -- its pointer
  abbrev word : ℕ
  word = pack (pointer_to s h (size_at x.image h))

  -- rows 4 and 5 are passed
  open_at : Open x s
  open_at = opening_parts x s f.opens

  -- it stands where its pointer leads
  stands : Stands s x h (size_at x.image h)
  stands =
      record {
        exponent = open_at.high;
        inside = omega (arith, (sound_live x.image h f.is_sound f.is_live_lem).holds, sound-end x.image h f.is_sound);
        short = open_at.short;
        is_sound = f.is_sound;
        is_live_lem = f.is_live_lem;
        size_is = refl;
        entry = entry_held s h (size_at x.image h) h x.table f.holds;
      }

  -- below 2^30
  fits : h + 16 + size_at x.image h ≤ 2 ^ 30
  fits = omega (arith, stands.inside, stands.short)

  -- its tests are passed: the tag leads to it, the address is its base, and this is merged
  is_located : located s (unpack word) x ≡ Ok h
  is_located = located-at s _ x h (located_object s x h (size_at x.image h) word stands (own_pointer s h (size_at x.image h) open_at.high fits))

  at_base : (unpack word).address ≡ h + 16
  at_base = unpack_address s h (size_at x.image h) open_at.high fits

  merges : released x.image h (walk_to x.image h) ≡ merge_of h from to
  merges = ap (released x.image h) (behind_met f.behind f.is_sound) ∙ released_merges x.image h before f.next_good

  room_left : total_fits x.image (extent_at x.image h) ≡ true
  room_left = total_fits_lem x.image (extent_at x.image h) f.total

  pub frees : Frees word x h from to
  frees =
      free_parts word x h from to
      (sym (free-at_base word x s f.opens h is_located at_base) ∙ ap (λ (a : Result FreedBlock Refusal). totalled a x.image) merges
      ∙ totalled_merges x.image h from to room_left)

  -- and this is left
  pub free_one : free word x ≡ outcome (Ok 0) without.image without.table
  free_one = free_merges s x f.opens word h is_located (eq-eqb _ _ at_base) from to (sym open_at.exponent) merges room_left

  -- its extent is in the total
  pub without-total : stored_total without.image ≡ stored_total x.image + extent_at x.image h
  without-total = given_back-total x.image from to frees.room frees.high h (omega (arith, f.total, open_at.short))

  -- its headers are those of the merged image
  without-header : (k : ℕ) → 16 ≤ k → header_at without.image k ≡ header_at (merged x.image from to) k
  without-header = given_back-header x.image from to frees.room frees.high h

  -- all is as it was behind the merged block
  pub without-same : SameFrom s to x without
  without-same =
      record {
        long = length-given_back x.image from to frees.room frees.high h;
        headers =
            λ k l. without-header k (omega (arith, frees.low, frees.room)) ∙ merged-behind x.image from to frees.room frees.high k l;
        entries =
            λ k size l i e.
            holds_kept s h (size_at x.image h) 0 k size k x.table
            (omega (arith, (sound_live x.image h f.is_sound f.is_live_lem).holds, frees.ends)) (omega (arith, open_at.short)) e;
      }

  -- rows 4 and 5 let the next call pass
  pub without_opens : opening without ≡ Ok s
  without_opens =
      let (good, same) = given_back_front x.image from to frees.room frees.high h frees.low in
      let e : slot_exponent without.image ≡ s = same ∙ sym open_at.exponent in
      opening-passes without (good ∙ open_at.good)
      (rw (e, without-same.long, length-noted s h (size_at x.image h) 0 x.table) open_at.entries)
      ∙ ap Ok e

  -- and the merged block is the one before what follows it
  pub without-behind : Behind without.image from to
  without-behind =
      let short : length x.image ≤ 2 ^ 30 = open_at.short in
      let w : OnWalk without.image from =
      on_walk_kept x.image without.image from without-same.long
      (λ k low l. without-header k low ∙ merged-before x.image from to frees.room frees.high k l) from (merge_start_on_walk f.behind) (omega arith)
      in
      let e : from + extent_at without.image from ≡ to =
      ap (λ (d : Header). from + d.extent) (without-header from frees.low ∙ merged-header x.image from to frees.room frees.high short)
      ∙ omega (arith, frees.room)
      in
      subst (Behind without.image from) e
      (at_later from w
      (sound-same (merged x.image from to) from without.image
      (without-same.long ∙ sym (length_merged x.image from to frees.room frees.high)) (without-header from frees.low)
      ∙ merged-sound x.image from to frees.room frees.high short frees.low))
