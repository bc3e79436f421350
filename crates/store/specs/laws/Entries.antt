-- Table entries: rows 9 and 21, noting an object's header place, and clearing it.
-- In order: of an object by its header place and size; of two objects; by its pointer with its entry; by a pointer that leads to it. Assumes nothing.
use Rattle.std.specs.Prelude.{ℕ, ◌+◌, ◌/◌, ◌^◌, ◌≤◌, ◌<◌, ◌≡◌, Bool, true, false, cond, List, length, drop, get_or, set, eqb, None, Some}
use Rattle.std.proofs.Math.Path.{refl}
use Rattle.std.proofs.Common.{sym, ap, ◌∙◌, length-set, get_or-set_same, get_or-set_other, drop-set-lt, le-leb, eq-eqb, eqb-true}
use Rattle.std.proofs.lemmas.List.{set_comm}
use Rattle.std.proofs.lemmas.Bool.{lt-leb, eqb-false}
use Rattle.frame.specs.Pointers.{reach, at}
use Rattle.frame.specs.Tags.{wrapper, is_small, pointer_to, tag_matches, entry_at, entry_of}
use Rattle.frame.specs.laws.Pointers.{reach-large}
use Rattle.frame.specs.laws.Wrappers.{entry_same}
use Rattle.frame.proofs.Objects.{entries_apart}
use Rattle.frame.specs.laws.Tags.{tagged, by_frame, pointer_small, pointer_large, matches_pointer, tagged_small, tagged-large}
use Rattle.frame.specs.declared.parts.Pointer.{Pointer}
use Rattle.frame.specs.declared.tag.Tagged.{Tagged}
use Rattle.block.specs.laws.Booleans.{by_bool}
use Rattle.store.specs.Calls.{entry_holds, noted}

module _ (s h size : ℕ) where
  -- a small-framed object needs none
  pub holds_small : (v : ℕ) (table : List ℕ) → wrapper h size ≤ s → entry_holds s h size v table ≡ true
  unfolding entry_holds
  holds_small v table l = simp (le-leb _ _ l)

  -- a large-framed one's entry must be the value
  pub holds-large : (v : ℕ) (table : List ℕ) (i : ℕ) → s < wrapper h size → i ≡ entry_of s h size → entry_holds s h size v table ≡ eqb (get_or table i 0) v
  unfolding entry_holds
  holds-large v table i l e = rw (lt-leb _ _ l, e) refl

  -- nothing is noted for a small-framed object
  pub noted_small : (entry : ℕ) (table : List ℕ) → wrapper h size ≤ s → noted s h size entry table ≡ table
  unfolding noted
  noted_small entry table l = simp (le-leb _ _ l)

  -- a large-framed one has its entry set
  pub noted-large : (entry : ℕ) (table : List ℕ) (i : ℕ) → s < wrapper h size → i ≡ entry_of s h size → noted s h size entry table ≡ set table i entry
  unfolding noted
  noted-large entry table i l e = rw (lt-leb _ _ l, e) refl

  -- the row is passed where the entry of a large-framed object is the value
  pub entry_holds_lem : (v : ℕ) (table : List ℕ) → (s < wrapper h size → get_or table (entry_of s h size) 0 ≡ v) → entry_holds s h size v table ≡ true
  entry_holds_lem v table f =
      by_frame s h size
      (λ l. holds_small v table l)
      (λ l. holds-large v table (entry_of s h size) l refl ∙ eq-eqb _ v (f l))

  -- and nowhere else
  pub entry_held : (v : ℕ) (table : List ℕ) → entry_holds s h size v table ≡ true → s < wrapper h size → get_or table (entry_of s h size) 0 ≡ v
  entry_held v table e l = eqb-true _ v (sym (holds-large v table (entry_of s h size) l refl) ∙ e)

  -- the length stays
  pub length-noted : (entry : ℕ) (table : List ℕ) → length (noted s h size entry table) ≡ length table
  length-noted entry table =
      by_frame s h size
      (λ l. ap length (noted_small entry table l))
      (λ l. ap length (noted-large entry table (entry_of s h size) l refl) ∙ length-set table (entry_of s h size) entry)

  -- all behind the entry stays
  pub noted_beyond : (entry : ℕ) (table : List ℕ) (n : ℕ) → entry_of s h size < n → drop n (noted s h size entry table) ≡ drop n table
  noted_beyond entry table n u =
      by_frame s h size
      (λ l. ap (drop n) (noted_small entry table l))
      (λ l. ap (drop n) (noted-large entry table (entry_of s h size) l refl) ∙ drop-set-lt n table (entry_of s h size) entry u)

  -- the entry of a large-framed object is read back
  pub noted_entry : (entry : ℕ) (table : List ℕ) → entry_of s h size < length table → s < wrapper h size
      → get_or (noted s h size entry table) (entry_of s h size) 0 ≡ entry
  noted_entry entry table u l =
      ap (λ (t : List ℕ). get_or t (entry_of s h size) 0) (noted-large entry table (entry_of s h size) l refl)
      ∙ get_or-set_same table (entry_of s h size) entry 0 u

-- Of two objects.

-- two entries, or one twice, are set to one value in either order
set_either : (table : List ℕ) (i j entry : ℕ) → set (set table i entry) j entry ≡ set (set table j entry) i entry
set_either table i j entry = by_bool (eqb i j) (λ p. rw (eqb-true i j p) refl) (λ p. set_comm table i j entry entry (eqb-false i j p))

-- so two objects are noted with one value in either order, whatever their frames; with 0 both are cleared
pub noted_either : (s h size k n entry : ℕ) (table : List ℕ)
    → noted s k n entry (noted s h size entry table) ≡ noted s h size entry (noted s k n entry table)
unfolding noted
noted_either s h size k n entry table =
    by_bool (is_small s h size)
    (λ p. rw p)
    (λ p. by_bool (is_small s k n) (λ q. rw (p, q)) (λ q. rw (p, q) (set_either table (entry_of s h size) (entry_of s k n) entry)))

-- noting one object's entry leaves those of the objects behind it
pub holds_kept : (s h size entry k n v : ℕ) (table : List ℕ) → h + 16 + size ≤ k → k + 16 + n ≤ 2 ^ 30
    → entry_holds s k n v table ≡ true → entry_holds s k n v (noted s h size entry table) ≡ true
holds_kept s h size entry k n v table behind short e =
    by_frame s h size
    (λ l. ap (entry_holds s k n v) (noted_small s h size entry table l) ∙ e)
    (λ l.
    entry_holds_lem s k n v (noted s h size entry table)
    (λ m.
    ap (λ (t : List ℕ). get_or t (entry_of s k n) 0) (noted-large s h size entry table (entry_of s h size) l refl)
    ∙ get_or-set_other table (entry_of s h size) (entry_of s k n) entry 0 (λ q. entries_apart s h size k n behind short l m (sym q))
    ∙ entry_held s k n v table e m))

-- By the pointer with its entry, as the code has it.

-- the table has the entry, where there is one
abbrev pub EntryIn : Tagged → List ℕ → Type 0
EntryIn t table = elim t.entry [ None ↦ Unit | Some i ↦ i < length table ]

-- row 9 or 21: the entry, where there is one, holds the value
abbrev pub holds_for : Tagged → ℕ → List ℕ → Bool
holds_for t v table = elim t.entry [ None ↦ true | Some i ↦ eqb (get_or table i 0) v ]

-- the table with the entry set
abbrev pub noted_for : Tagged → ℕ → List ℕ → List ℕ
noted_for t entry table = elim t.entry [ None ↦ table | Some i ↦ set table i entry ]

module _ (s h size : ℕ) (table : List ℕ) where
  pub tagged_in : (s < wrapper h size → entry_of s h size < length table) → EntryIn (tagged s h size) table
  tagged_in f = by_frame s h size (λ l. rw (tagged_small s h size l) tt) (λ l. rw (tagged-large s h size l) (f l))

  pub tagged-holds : (v : ℕ) → holds_for (tagged s h size) v table ≡ entry_holds s h size v table
  tagged-holds v =
      by_frame s h size
      (λ l. rw (tagged_small s h size l) (sym (holds_small s h size v table l)))
      (λ l. rw (tagged-large s h size l) (sym (holds-large s h size v table (entry_of s h size) l refl)))

  pub tagged-noted : (entry : ℕ) → noted_for (tagged s h size) entry table ≡ noted s h size entry table
  tagged-noted entry =
      by_frame s h size
      (λ l. rw (tagged_small s h size l) (sym (noted_small s h size entry table l)))
      (λ l. rw (tagged-large s h size l) (sym (noted-large s h size entry table (entry_of s h size) l refl)))

-- By a pointer whose tag leads to the object.

-- the table with the entry that the tag leads through zero
unfoldable pub entry_cleared : ℕ → Pointer → List ℕ → List ℕ
entry_cleared s p table = cond p.flag table (set table (entry_at s p.tag p.address) 0)

-- no entry, or that one
pub cleared_small : (s : ℕ) (p : Pointer) (table : List ℕ) → p.flag ≡ true → entry_cleared s p table ≡ table
unfolding entry_cleared
cleared_small s p table e = rw e

pub cleared-large : (s : ℕ) (p : Pointer) (table : List ℕ) → p.flag ≡ false → entry_cleared s p table ≡ set table (entry_at s p.tag p.address) 0
unfolding entry_cleared
cleared-large s p table e = rw e

-- it is the object's
pub cleared-noted : (s h size : ℕ) (p : Pointer) (table : List ℕ) → tag_matches s h size p ≡ true → h / 2 ^ reach s p ≡ p.address / 2 ^ reach s p
    → entry_cleared s p table ≡ noted s h size 0 table
cleared-noted s h size p table m near =
    let q : p ≡ at (pointer_to s h size) p.address = matches_pointer s h size p m in
    let flag : p.flag ≡ (pointer_to s h size).flag = ap (λ (r : Pointer). r.flag) q in
    let tag : p.tag ≡ (pointer_to s h size).tag = ap (λ (r : Pointer). r.tag) q in
    by_frame s h size
    (λ l.
    let o : (pointer_to s h size).flag ≡ true = ap (λ (r : Pointer). r.flag) (pointer_small s h size l) in
    cleared_small s p table (flag ∙ o) ∙ sym (noted_small s h size 0 table l))
    (λ l.
    let o : (pointer_to s h size).flag ≡ false = ap (λ (r : Pointer). r.flag) (pointer_large s h size l) in
    let t : p.tag ≡ wrapper h size = tag ∙ ap (λ (r : Pointer). r.tag) (pointer_large s h size l) in
    let n : h / 2 ^ wrapper h size ≡ p.address / 2 ^ wrapper h size = rw (reach-large s p (flag ∙ o), t) at near in
    let e : entry_at s p.tag p.address ≡ entry_of s h size = ap (λ (k : ℕ). entry_at s k p.address) t ∙ entry_same s (wrapper h size) p.address h (sym n) in
    cleared-large s p table (flag ∙ o) ∙ sym (noted-large s h size 0 table (entry_at s p.tag p.address) l e))
