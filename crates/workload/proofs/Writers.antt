-- The record of a choice: how long it is, and that it is put field by field. Assumes nothing.
use Rattle.std.proofs.Common.{◌≡◌, ℕ, ◌+◌, ◌-◌, ◌≤◌, List, [], ◌++◌, length, drop, sym, ap, ◌∙◌, append_assoc, append-nil, arith, length-append, drop-drop}
use Rattle.std.proofs.lemmas.List.{drop_all}
use borrow.Rule.Slice.PartMut.{put_mid}
use Rattle.block.specs.Bytes.{encode, put}
use Rattle.block.specs.laws.Fields.{length-encode}
use Rattle.block.specs.laws.Writes.{put-append, put_def}
use Rattle.call_log.specs.Written.{record_of}
use Rattle.call_log.specs.laws.Written.{allocate_record, free_record_lem, store_record}
use Rattle.call_log.specs.declared.record.Call.TheVariants.{Allocate, Free, Store}
use Rattle.workload.specs.Choice.{call_of}
use Rattle.workload.specs.declared.choosing.Choice.{Choice}
use Rattle.workload.specs.declared.choosing.Choice.TheVariants as choice

-- 10 bytes for an allocation
pub length_allocate : (size type : ℕ) → length (record_of (Allocate size type)) ≡ 10
length_allocate size type = rw (allocate_record size type) (simp (length-append, length-encode))

-- 12 for a free
pub length_free : (p : ℕ) → length (record_of (Free p)) ≡ 12
length_free p = rw (free_record_lem p) (simp (length-append, length-encode))

-- 22 for a store
pub length_store : (p width v : ℕ) → length (record_of (Store p width v)) ≡ 22
length_store p width v = rw (store_record p width v) (simp (length-append, length-encode))

-- no record is longer than a store's
pub length_most : (c : Choice) → length (record_of (call_of c)) ≤ 22
length_most (choice.Allocate size) = omega (arith, length_allocate size 0)
length_most (choice.Free i p) = omega (arith, length_free p)
length_most (choice.Store p byte) = omega (arith, length_store p 1 byte)

module _ (r : List ℕ) where
  -- a field behind those that are put
  next_field : (front : List ℕ) (n w v : ℕ) → length front ≡ n → n + w ≤ length r → put (put r 0 front) n (encode w v) ≡ put r 0 (front ++ encode w v)
  next_field front n w v e l = put-append r 0 front (encode w v) n (omega (arith, e)) (simp length-encode l)

  -- all of them
  all_fields : (bytes : List ℕ) → length bytes ≡ length r → put r 0 bytes ≡ bytes
  all_fields bytes e =
      let behind : drop (0 + length bytes) r ≡ [] = drop_all (0 + length bytes) r (omega arith) in
      put_def r 0 bytes ∙ ap (λ (x : List ℕ). bytes ++ x) behind ∙ append-nil bytes

  pub allocate_put : (size type : ℕ) → length r ≡ 10
      → put (put (put (put r 0 (encode 2 10)) 2 (encode 2 16)) 4 (encode 4 size)) 8 (encode 2 type) ≡ record_of (Allocate size type)
  allocate_put size type l =
      let a : List ℕ = encode 2 10 ++ encode 2 16 in
      let b : List ℕ = a ++ encode 4 size in
      let whole : b ++ encode 2 type ≡ record_of (Allocate size type) = simp append_assoc (sym (allocate_record size type)) in
      rw (
        next_field (encode 2 10) 2 2 16 (length-encode 2 10) (omega arith),
        next_field a 4 4 size (simp (length-append, length-encode)) (omega arith),
        next_field b 8 2 type (simp (length-append, length-encode)) (omega arith),
      ) (all_fields (b ++ encode 2 type) (simp (length-append, length-encode) (sym l)) ∙ whole)

  pub free_put : (p : ℕ) → length r ≡ 12 → put (put (put r 0 (encode 2 12)) 2 (encode 2 17)) 4 (encode 8 p) ≡ record_of (Free p)
  free_put p l =
      let a : List ℕ = encode 2 12 ++ encode 2 17 in
      let whole : a ++ encode 8 p ≡ record_of (Free p) = simp append_assoc (sym (free_record_lem p)) in
      rw (next_field (encode 2 12) 2 2 17 (length-encode 2 12) (omega arith), next_field a 4 8 p (simp (length-append, length-encode)) (omega arith))
      (all_fields (a ++ encode 8 p) (simp (length-append, length-encode) (sym l)) ∙ whole)

  pub store_put : (p width v : ℕ) → length r ≡ 22
      → put (put (put (put (put r 0 (encode 2 22)) 2 (encode 2 20)) 4 (encode 8 p)) 12 (encode 2 width)) 14 (encode 8 v) ≡ record_of (Store p width v)
  store_put p width v l =
      let a : List ℕ = encode 2 22 ++ encode 2 20 in
      let b : List ℕ = a ++ encode 8 p in
      let d : List ℕ = b ++ encode 2 width in
      let whole : d ++ encode 8 v ≡ record_of (Store p width v) = simp append_assoc (sym (store_record p width v)) in
      rw (
        next_field (encode 2 22) 2 2 20 (length-encode 2 22) (omega arith),
        next_field a 4 8 p (simp (length-append, length-encode)) (omega arith),
        next_field b 12 2 width (simp (length-append, length-encode)) (omega arith),
        next_field d 14 8 v (simp (length-append, length-encode)) (omega arith),
      ) (all_fields (d ++ encode 8 v) (simp (length-append, length-encode) (sym l)) ∙ whole)

-- a part of a log that is filled is put there
pub put_part : (log : List ℕ) (at len : ℕ) (part bytes : List ℕ) → part ≡ bytes → len ≡ length bytes → put_mid at (at + len - at) log part ≡ put log at bytes
put_part log at len part bytes e l =
    let k : at + len - at ≡ length bytes = omega (arith, l) in
    rw (e, k, drop-drop (length bytes) at log) (sym (put_def log at bytes))
