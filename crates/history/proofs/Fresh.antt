-- A fresh image is one gap. Assumes nothing.
use Rattle.std.proofs.Common.{ℕ, ◌-◌, ◌^◌, ◌≤◌, ◌≡◌, length, sym, ◌∙◌, arith}
use Rattle.store.specs.Calls.{fresh}
use Rattle.store.specs.laws.SetUp.{length-fresh, fresh_block}
use Rattle.history.proofs.Gaps.{last, Placed}
use Rattle.history.proofs.Looks.{gap_ok}
use Rattle.history.proofs.Rendered.{gap_some}

pub fresh-placed : (s L : ℕ) → 64 ≤ L → L ≤ 2 ^ 30 → Placed (fresh s L) (last (L - 16))
fresh-placed s L low high =
    let n : length (fresh s L) ≡ L = length-fresh s L (omega arith) in
    let e : L - 16 - 16 ≡ L - 32 = omega arith in
    record {
      good = gap_ok (L - 16) (omega arith);
      bytes =
          fresh_block s L
          ∙ sym (gap_some (L - 16) (omega arith) ∙ rw e);
      whole = omega arith;
      short = omega arith;
    }
