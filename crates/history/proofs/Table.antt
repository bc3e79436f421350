-- The table of large-framed objects, against the abstract heap.
-- In order: what is kept of it; that entries differ; an entry noted, cleared, and left as it was; the objects listed in another way. Assumes nothing.
use Rattle.std.proofs.Common.{None, Some, ℕ, ◌+◌, ◌^◌, ◌≤◌, ◌<◌, ◌≡◌, refl, cond, List, length, get_or, set, leb, eqb, sym, ap, ◌∙◌, arith, length-set, get_or-set_same, get_or-set_other, eq-eqb, ne_eqb, eqb-true, leb-true, leb-false}
use Rattle.std.proofs.lemmas.Bool.{eqb-false}
use Rattle.frame.specs.Tags.{wrapper, used_entries, entry_of}
use Rattle.frame.specs.laws.Wrappers.{object_entry_used}
use Rattle.frame.proofs.Objects.{entries_apart}
use Rattle.frame.specs.laws.Tags.{by_frame}
use Rattle.block.specs.laws.Booleans.{by_bool}
use Rattle.store.specs.Calls.{noted}
use Rattle.store.specs.laws.Entries.{noted_small, noted-large}
use Rattle.history.specs.Heap.{Object, Heap}
use Rattle.history.proofs.Heap.{find, none_some, some_same}

-- who stands in entry j with the number t
pub data Entry (s : ℕ) (heap : Heap) (j t : ℕ) : Type 0 where
  nobody : t ≡ 0 → Entry s heap j t
  someone : (o : Object) → find heap t ≡ Some o → s < wrapper t o.size → entry_of s t o.size ≡ j → Entry s heap j t

-- each used entry is 0 or the place of the large-framed object whose entry it is; each large-framed object's entry has its place
pub record Tabled (s L : ℕ) (heap : Heap) (table : List ℕ) : Type 0 where
  pub long : used_entries s L ≤ length table
  pub placed : (k : ℕ) (o : Object) → find heap k ≡ Some o → s < wrapper k o.size → get_or table (entry_of s k o.size) 0 ≡ k
  pub entry : (j : ℕ) → j < used_entries s L → Entry s heap j (get_or table j 0)

-- live objects lie in the image, and apart
pub record Ranged (L : ℕ) (heap : Heap) : Type 0 where
  pub short : L ≤ 2 ^ 30
  pub high : (k : ℕ) (o : Object) → find heap k ≡ Some o → k + 16 + o.size ≤ L
  pub apart : (k j : ℕ) (o o' : Object) → find heap k ≡ Some o → find heap j ≡ Some o' → k < j → k + 16 + o.size ≤ j

-- two live large-framed objects have two entries
pub entries_differ : (s L : ℕ) (heap : Heap) → Ranged L heap → (k j : ℕ) (o o' : Object) → find heap k ≡ Some o → find heap j ≡ Some o' → (k ≡ j → ⊥)
    → s < wrapper k o.size → s < wrapper j o'.size → entry_of s k o.size ≡ entry_of s j o'.size → ⊥
entries_differ s L heap r k j o o' e f n l m q =
    by_bool (leb k j)
    (λ t. let lt : k < j = omega (arith, leb-true k j t) in
    entries_apart s k o.size j o'.size (r.apart k j o o' e f lt) (omega (arith, r.high j o' f, r.short)) l m q)
    (λ t. let lt : j < k = leb-false k j t in
    entries_apart s j o'.size k o.size (r.apart j k o' o f e lt) (omega (arith, r.high k o e, r.short)) m l (sym q))

module _ (s L : ℕ) (heap : Heap) (table : List ℕ) (t : Tabled s L heap table) where
  -- An object is added.

  module _ (new : Heap) (r : Ranged L new) (h : ℕ) (b : Object) (fresh : find heap h ≡ None)
      (law : (k : ℕ) → find new k ≡ cond (eqb k h) (Some b) (find heap k)) where
    at_new : find new h ≡ Some b
    at_new = rw (eq-eqb h h refl) at (law h)

    at_old : (k : ℕ) (o : Object) → find heap k ≡ Some o → (find new k ≡ Some o) × (k ≡ h → ⊥)
    at_old k o e =
        let n : (k ≡ h → ⊥) = λ q. none_some fresh (ap (find heap) (sym q) ∙ e) in
        ((rw (ne_eqb k h n) at (law k)) ∙ e, n)

    back : (k : ℕ) (o : Object) → find new k ≡ Some o → (k ≡ h → ⊥) → find heap k ≡ Some o
    back k o e n = sym (rw (ne_eqb k h n) at (law k)) ∙ e

    kept_up : {j x : ℕ} → Entry s heap j x → Entry s new j x
    kept_up (nobody e) = nobody e
    kept_up (someone o f m q) = someone o (at_old _ o f).0 m q

    -- its entry is zero
    pub entry_zero : s < wrapper h b.size → get_or table (entry_of s h b.size) 0 ≡ 0
    entry_zero l = go (t.entry (entry_of s h b.size) (object_entry_used s L h b.size (r.high h b at_new) r.short))
      where
        go : Entry s heap (entry_of s h b.size) (get_or table (entry_of s h b.size) 0) → get_or table (entry_of s h b.size) 0 ≡ 0
        go (nobody e) = e
        go (someone o f m q) =
            absurd (entries_differ s L new r (get_or table (entry_of s h b.size) 0) h o b (at_old _ o f).0 at_new (at_old _ o f).1 m l q)

    added_small : wrapper h b.size ≤ s → Tabled s L new table
    added_small sm =
        record {
          long = t.long;
          placed =
              λ k o e l.
              by_bool (eqb k h)
              (λ p. let q : k ≡ h = eqb-true k h p in
              let v : o ≡ b = some_same e (ap (find new) q ∙ at_new) in
              let w : wrapper k o.size ≡ wrapper h b.size = rw (q, v) in
              absurd (omega arith))
              (λ p. t.placed k o (back k o e (eqb-false k h p)) l);
          entry = λ j u. kept_up (t.entry j u);
        }

    added_large : s < wrapper h b.size → Tabled s L new (set table (entry_of s h b.size) h)
    added_large lE =
        let uE : entry_of s h b.size < length table = omega (arith, object_entry_used s L h b.size (r.high h b at_new) r.short, t.long) in
        record {
          long = rw length-set t.long;
          placed =
              λ k o e l.
              by_bool (eqb k h)
              (λ p. let q : k ≡ h = eqb-true k h p in
              let v : o ≡ b = some_same e (ap (find new) q ∙ at_new) in
              rw (q, v) (get_or-set_same table (entry_of s h b.size) h 0 uE))
              (λ p.
              get_or-set_other table (entry_of s h b.size) (entry_of s k o.size) h 0
              (λ z. entries_differ s L new r k h o b e at_new (eqb-false k h p) l lE z)
              ∙ t.placed k o (back k o e (eqb-false k h p)) l);
          entry =
              λ j u.
              by_bool (eqb j (entry_of s h b.size))
              (λ p. let q : j ≡ entry_of s h b.size = eqb-true j (entry_of s h b.size) p in
              rw (q, get_or-set_same table (entry_of s h b.size) h 0 uE) (someone b at_new lE refl))
              (λ p. rw (get_or-set_other table (entry_of s h b.size) j h 0 (eqb-false j (entry_of s h b.size) p)) (kept_up (t.entry j u)));
        }

    -- and then holds its place, if it is large-framed
    pub added : Tabled s L new (noted s h b.size h table)
    added =
        by_frame s h b.size
        (λ l. rw (noted_small s h b.size h table l) (added_small l))
        (λ l. rw (noted-large s h b.size h table (entry_of s h b.size) l refl) (added_large l))

  -- An object is taken out.

  module _ (r : Ranged L heap) (new : Heap) (h : ℕ) (b : Object) (was : find heap h ≡ Some b)
      (law : (k : ℕ) → find new k ≡ cond (eqb k h) None (find heap k)) where
    kept : (k : ℕ) (o : Object) → find new k ≡ Some o → (find heap k ≡ Some o) × (k ≡ h → ⊥)
    kept k o e =
        by_bool (eqb k h)
        (λ p. absurd (none_some (rw p at (law k)) e))
        (λ p. (sym (rw p at (law k)) ∙ e, eqb-false k h p))

    stays : (k : ℕ) (o : Object) → find heap k ≡ Some o → (k ≡ h → ⊥) → find new k ≡ Some o
    stays k o e n = (rw (ne_eqb k h n) at (law k)) ∙ e

    -- an entry that is not the object's keeps its owner
    kept_entry : (j x : ℕ) → (s < wrapper h b.size → j ≡ entry_of s h b.size → ⊥) → Entry s heap j x → Entry s new j x
    kept_entry j x n (nobody e) = nobody e
    kept_entry j x n (someone o f m q) =
        by_bool (eqb x h)
        (λ p. let w : x ≡ h = eqb-true x h p in
        let v : o ≡ b = some_same f (ap (find heap) w ∙ was) in
        absurd (n (rw (w, v) at m) (sym (rw (w, v) at q))))
        (λ p. someone o (stays x o f (eqb-false x h p)) m q)

    gone_small : wrapper h b.size ≤ s → Tabled s L new table
    gone_small sm =
        record {
          long = t.long;
          placed = λ k o e l. t.placed k o (kept k o e).0 l;
          entry = λ j u. kept_entry j (get_or table j 0) (λ l q. omega arith) (t.entry j u);
        }

    gone_large : s < wrapper h b.size → Tabled s L new (set table (entry_of s h b.size) 0)
    gone_large lE =
        let uE : entry_of s h b.size < length table = omega (arith, object_entry_used s L h b.size (r.high h b was) r.short, t.long) in
        record {
          long = rw length-set t.long;
          placed =
              λ k o e l.
              get_or-set_other table (entry_of s h b.size) (entry_of s k o.size) 0 0
              (λ z. entries_differ s L heap r k h o b (kept k o e).0 was (kept k o e).1 l lE z)
              ∙ t.placed k o (kept k o e).0 l;
          entry =
              λ j u.
              by_bool (eqb j (entry_of s h b.size))
              (λ p. let q : j ≡ entry_of s h b.size = eqb-true j (entry_of s h b.size) p in
              rw (q, get_or-set_same table (entry_of s h b.size) 0 0 uE) (nobody refl))
              (λ p.
              rw (get_or-set_other table (entry_of s h b.size) j 0 0 (eqb-false j (entry_of s h b.size) p))
              (kept_entry j (get_or table j 0) (λ l q. eqb-false j (entry_of s h b.size) p q) (t.entry j u)));
        }

    pub gone : Tabled s L new (noted s h b.size 0 table)
    gone =
        by_frame s h b.size
        (λ l. rw (noted_small s h b.size 0 table l) (gone_small l))
        (λ l. rw (noted-large s h b.size 0 table (entry_of s h b.size) l refl) (gone_large l))

  -- An object changes, but not its size.

  module _ (new : Heap) (h : ℕ) (b c : Object) (was : find heap h ≡ Some b) (size : c.size ≡ b.size)
      (law : (k : ℕ) → find new k ≡ cond (eqb k h) (Some c) (find heap k)) where
    changed_entry : (j x : ℕ) → Entry s heap j x → Entry s new j x
    changed_entry j x (nobody e) = nobody e
    changed_entry j x (someone o f m q) =
        by_bool (eqb x h)
        (λ p. let v : o ≡ b = some_same f (ap (find heap) (eqb-true x h p) ∙ was) in
        let y : c.size ≡ o.size = size ∙ sym (ap (λ (z : Object). z.size) v) in
        someone c (rw p at (law x)) (rw y m) (rw y q))
        (λ p. someone o ((rw p at (law x)) ∙ f) m q)

    pub same-table : Tabled s L new table
    same-table =
        record {
          long = t.long;
          placed =
              λ k o e l.
              by_bool (eqb k h)
              (λ p. let v : o ≡ c = some_same e (rw p at (law k)) in
              let w : o.size ≡ b.size = ap (λ (z : Object). z.size) v ∙ size in
              rw w (t.placed k b (ap (find heap) (eqb-true k h p) ∙ was) (rw w at l)))
              (λ p. t.placed k o (sym (rw p at (law k)) ∙ e) l);
          entry = λ j u. changed_entry j (get_or table j 0) (t.entry j u);
        }

-- The objects are listed in another way.

pub other_heap : (s L : ℕ) (heap new : Heap) (table : List ℕ) → Tabled s L heap table → ((k : ℕ) → find heap k ≡ find new k) → Tabled s L new table
other_heap s L heap new table t law =
    record { long = t.long; placed = λ k o e l. t.placed k o (law k ∙ e) l; entry = λ j u. go j (get_or table j 0) (t.entry j u) }
  where
    go : (j x : ℕ) → Entry s heap j x → Entry s new j x
    go j x (nobody e) = nobody e
    go j x (someone o f m q) = someone o (sym (law x) ∙ f) m q
