-- `store::Opened::text_at` meets its contract: 10 and 11 (`locate`), 13 (`in_body`) of one byte, then a search of all bytes that remain (`find_text`): 20, or the
-- length. Assumes nothing.
use Rattle.std.proofs.Common.{arith, sym}
use Rattle.std.proofs.lemmas.Grind.{common_steps}
use Rattle.store.specs.Calls.{text_at, read_tag, found_at}
use Rattle.store.specs.Opened.{seen}
use Rattle.store.proofs.Texts.{text_or, text_out, body_ahead}
use Rattle.store.proofs.opening.Opened.text_at.Goals as goal

-- row 10 or 11
pub returns-in_err-object : goal.returns-in_err-object
unfolding text_at read_tag found_at
returns-in_err-object c = grind (arith, common_steps)

-- row 13
pub returns-then-not-in_body : goal.returns-then-not-in_body
returns-then-not-in_body c = grind (arith, common_steps, text_out)

pub find_text-requires : goal.find_text-requires
find_text-requires c =
    grind (arith, common_steps, body_ahead _ _ (seen c.args.self.now) _ (sym c.in_ok-object.ensures) c.args.self.now.opens (sym c.if-not-in_body.ensures))

-- the length, or row 20
pub returns : goal.returns
returns c =
    grind (arith, common_steps, text_or, body_ahead _ _ (seen c.args.self.now) _ (sym c.in_ok-object.ensures) c.args.self.now.opens (sym c.if-not-in_body.ensures))
