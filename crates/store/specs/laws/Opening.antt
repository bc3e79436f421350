-- Rows 4 and 5, with which every call but set-up begins. Assumes nothing.
use Rattle.std.specs.Prelude.{ℕ, ◌+◌, ◌^◌, ◌≤◌, ◌<◌, ◌≡◌, true, false, List, leb, length, Err, Ok}
use Rattle.std.proofs.Common.{sym, ap, ◌∙◌, lt_of_lt_of_le, arith, leb-true, le-leb}
use Rattle.std.proofs.lemmas.Bool.{lt-leb}
use Rattle.frame.specs.Tags.{used_entries, entry_of}
use Rattle.frame.specs.laws.Wrappers.{object_entry_used}
use Rattle.block.specs.Layout.{superblock_good, slot_exponent}
use Rattle.block.specs.laws.Superblock.{superblock_parts, superblock_kept}
use Rattle.block.specs.Bytes.{put}
use Rattle.block.specs.laws.Writes.{length-put}
use Rattle.store.specs.State.{State, state}
use Rattle.store.specs.Calls.{opening}
use Rattle.store.specs.laws.Refusals.{demand_met}
use Rattle.store.specs.declared.answer.Refusal.TheVariants.{BadSuperblock, ShortTable}

-- rows 4 and 5 are passed, with the slot exponent s
pub record Open (x : State) (s : ℕ) : Type 0 where
  pub good : superblock_good x.image ≡ true
  pub exponent : s ≡ slot_exponent x.image
  pub entries : used_entries s (length x.image) ≤ length x.table
  pub low : 6 ≤ s
  pub high : s ≤ 15
  pub long : 64 ≤ length x.image
  pub short : length x.image ≤ 2 ^ 30

pub opening_parts : (x : State) (s : ℕ) → opening x ≡ Ok s → Open x s
unfolding opening
opening_parts x s e =
    let a = demand_met (superblock_good x.image) BadSuperblock _ s e in
    let b = demand_met (leb (used_entries (slot_exponent x.image) (length x.image)) (length x.table)) ShortTable _ s a.1 in
    let q : s ≡ slot_exponent x.image = cc in
    let p = superblock_parts x.image a.0 in
    record {
      good = a.0;
      exponent = q;
      entries = rw q (leb-true _ _ b.0);
      low = rw q p.exponent_low;
      high = rw q p.exponent_high;
      long = p.length_low;
      short = p.length_high;
    }

-- and how they are passed
pub opening-passes : (x : State) → superblock_good x.image ≡ true → used_entries (slot_exponent x.image) (length x.image) ≤ length x.table
    → opening x ≡ Ok (slot_exponent x.image)
unfolding opening
opening-passes x g l = rw (g, le-leb _ _ l)

-- bytes replaced behind the superblock
pub opening_kept : (x : State) (s at : ℕ) (bs : List ℕ) → Open x s → 16 ≤ at → at + length bs ≤ length x.image
    → opening (state (put x.image at bs) x.table) ≡ Ok s
opening_kept x s at bs o low fits =
    let (good, same) = superblock_kept x.image at bs fits (omega arith) in
    let e : slot_exponent (put x.image at bs) ≡ s = same ∙ sym o.exponent in
    opening-passes (state (put x.image at bs) x.table) (good ∙ o.good) (rw (e, length-put x.image at bs fits) o.entries) ∙ ap Ok e

-- The ways out.

module _ (x : State) where
  pub not_open : superblock_good x.image ≡ false → Err BadSuperblock ≡ opening x
  unfolding opening
  not_open e = rw e

  pub table_short : superblock_good x.image ≡ true → length x.table < used_entries (slot_exponent x.image) (length x.image) → Err ShortTable ≡ opening x
  unfolding opening
  table_short e l = rw (e, lt-leb _ _ l)

-- the table has the entry of an object that lies in the image
pub entry_in : (x : State) (s h size : ℕ) → Open x s → h + 16 + size ≤ length x.image → entry_of s h size < length x.table
entry_in x s h size o l = lt_of_lt_of_le (object_entry_used s (length x.image) h size l o.short) o.entries
