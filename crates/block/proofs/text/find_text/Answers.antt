use Rattle.std.proofs.Common.{◌≡◌, ◌+◌, ◌-◌, false, take, drop, sym, ◌∙◌, ap, arith, rules, tests}
use Rattle.std.specs.List.{list_any, position_from}
use Rattle.std.proofs.lemmas.Iterator.{YieldsList-from_slice}
use Rattle.std.proofs.lemmas.Iterator.Search.{position_from_yields_List}
use Rattle.std.proofs.lemmas.Iterator.Adapters.{position_from-zero}
use Rattle.block.specs.laws.Text.{is_zero, text_start, text_passed, text_found, text_is_found}
use Rattle.block.proofs.text.find_text.Goals as goal

pub loop-i-init : goal.loop-i-init
loop-i-init c = let s = c.args in (omega arith, text_start s.image.now s.at s.n)

pub loop-i-preserved : goal.loop-i-preserved
loop-i-preserved c =
    let s = c.args in
    let l = c.loop-i in
    let e : s.at + l.i + 16 - (s.at + l.i) ≡ 16 = omega arith in
    let none : list_any is_zero (take 16 (drop (s.at + l.i) s.image.now)) ≡ false = sym (rw e at c.contains.ensures.value) ∙ c.if-not-contains.true in
    (omega arith, l.invariant.1 ∙ text_passed s.image.now s.at s.n c.requires 16 l.i (omega arith) none)

pub loop-i-2-init : goal.loop-i-2-init
loop-i-2-init c = c.loop-i.invariant

pub loop-i-2-preserved : goal.loop-i-2-preserved
loop-i-2-preserved c =
    let s = c.args in
    let l = c.loop-i-2 in
    let e : s.at + l.i + 8 - (s.at + l.i) ≡ 8 = omega arith in
    let none : list_any is_zero (take 8 (drop (s.at + l.i) s.image.now)) ≡ false = sym (rw e at c.contains-in-loop-i-2.ensures.value) ∙ c.if-not-contains-2.true in
    (omega arith, l.invariant.1 ∙ text_passed s.image.now s.at s.n c.requires 8 l.i (omega arith) none)

pub returns : goal.returns
returns c =
    let s = c.args in
    let l = c.loop-i-2 in
    let left = take (s.n - l.i) (drop (s.at + l.i) s.image.now) in
    let e : s.at + s.n - (s.at + l.i) ≡ s.n - l.i = omega arith in
    let found : c.position.result ≡ position_from is_zero 0 left = position_from_yields_List is_zero _ _ c.position.result c.position.ensures.ran (YieldsList-from_slice left (rw e at c.iter.ensures.rest)) (λ x b q k. search (rules, tests)) ∙ position_from-zero is_zero left in
    let text = sym (text_is_found l.i left) ∙ sym l.invariant.1 in
    ap (text_found l.i) (sym c.in_ok-k.was ∙ found) ∙ text

pub returns-in_err-k : goal.returns-in_err-k
returns-in_err-k c =
    let s = c.args in
    let l = c.loop-i-2 in
    let left = take (s.n - l.i) (drop (s.at + l.i) s.image.now) in
    let e : s.at + s.n - (s.at + l.i) ≡ s.n - l.i = omega arith in
    let found : c.position.result ≡ position_from is_zero 0 left = position_from_yields_List is_zero _ _ c.position.result c.position.ensures.ran (YieldsList-from_slice left (rw e at c.iter.ensures.rest)) (λ x b q k. search (rules, tests)) ∙ position_from-zero is_zero left in
    let text = sym (text_is_found l.i left) ∙ sym l.invariant.1 in
    rw c.from_residual.ensures (ap (text_found l.i) (sym c.in_err-k.was ∙ found) ∙ text)
