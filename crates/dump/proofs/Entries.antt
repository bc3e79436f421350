-- The entries of a table, put one behind the other. Assumes nothing.
use Rattle.std.proofs.Common.{◌≡◌, refl, List, [], ◌∷◌, ◌++◌, ℕ, suc, ◌+◌, ◌*◌, ◌≤◌, ◌<◌, length, get_or, drop, sym, ap, ◌∙◌, append-nil, add-one, arith, length-append, length-drop, drop_of_length-le, drop-cons}
use Rattle.block.specs.Bytes.{encode, put}
use Rattle.block.specs.laws.Fields.{length-encode}
use Rattle.block.specs.laws.Writes.{put_def, put-append, put_nil}
use Rattle.dump.specs.Dump.{table_bytes}

-- 8 bytes for each entry
length_bytes : (table : List ℕ) → length (table_bytes table) ≡ 8 * length table
unfolding table_bytes
length_bytes [] = refl
length_bytes (entry ∷ rest) = simp (length-append, length-encode, length_bytes rest) (omega arith)

-- To put the entries from i on is to put all.
pub record Putting (table bytes : List ℕ) (i : ℕ) : Type 0 where
  pub rest : put bytes (8 * i) (table_bytes (drop i table)) ≡ table_bytes table

-- all entries are left: putting them replaces every byte
pub begun : {table bytes : List ℕ} → length bytes ≡ 8 * length table → Putting table bytes 0
begun {table} {bytes} long =
    let n = length_bytes table in
    record {
      rest =
          put_def bytes 0 (table_bytes table)
          ∙ ap (λ (x : List ℕ). table_bytes table ++ x) (drop_of_length-le bytes (omega arith))
          ∙ append-nil (table_bytes table);
    }

module _ {table bytes : List ℕ} {i : ℕ} (p : Putting table bytes i) where
  -- one entry is put
  pub turn : length bytes ≡ 8 * length table → i < length table → Putting table (put bytes (8 * i) (encode 8 (get_or table i 0))) (i + 1)
  unfolding table_bytes
  turn long l =
      let entry : ℕ = get_or table i 0 in
      let behind : List ℕ = drop (suc i) table in
      let n : length (encode 8 entry) ≡ 8 = length-encode 8 entry in
      let m : length (table_bytes behind) ≡ 8 * length behind = length_bytes behind in
      let k : length behind + suc i ≡ length table = simp length-drop (omega arith) in
      record {
        rest =
            ap (λ (j : ℕ). put (put bytes (8 * i) (encode 8 entry)) (8 * (i + 1)) (table_bytes (drop j table))) (add-one i)
            ∙ put-append bytes (8 * i) (encode 8 entry) (table_bytes behind) (8 * (i + 1)) (omega arith) (omega arith)
            ∙ ap (λ (x : List ℕ). put bytes (8 * i) (table_bytes x)) (sym (drop-cons table i 0 l))
            ∙ p.rest;
      }

  -- no entry is left
  pub ended : length table ≤ i → bytes ≡ table_bytes table
  unfolding table_bytes
  ended l = sym (put_nil bytes (8 * i)) ∙ rw (drop_of_length-le table l) at p.rest
