-- What is known of every `Opened`; what an option says where it is made a result. Assumes nothing.
use Rattle.std.specs.Prelude.{◌≡◌, Option, Some, None, Ok, ok_or}
use Rattle.std.proofs.Common.{ap, sym, ◌∙◌, subst}
use Rattle.store.specs.declared.answer.Refusal.{Refusal}
use Rattle.store.specs.State.{State}
use Rattle.store.specs.Opened.{seen}
use Rattle.store.specs.laws.Opening.{Open, opening_parts}
use Rattle.store.specs.declared.opening.Opened.{Opened}

module _ (o : Opened) where
  pub opens : Open (seen o) o.s
  opens = opening_parts (seen o) o.s o.opens

  -- so are the image and table that were lent
  pub opened : (x : State) → seen o ≡ x → Open x o.s
  opened x e = subst (λ (y : State). Open y o.s) e opens

-- the rows that are passed on what was lent are passed there
pub met : {A : Type 0} (rows : State → A) {x y : State} {a : A} → x ≡ y → a ≡ rows x → rows y ≡ a
met rows e q = sym (ap rows e) ∙ sym q

-- what `ok_or` was made of
pub ok_or_some : {A : Type 0} (o : Option A) (e : Refusal) (v : A) → Ok v ≡ ok_or o e → o ≡ Some v
ok_or_some (Some w) e v q = cc
ok_or_some None e v q = cc
