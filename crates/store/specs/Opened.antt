-- What is lent to the tests of a call that has passed rows 4 and 5. Assumes nothing.
use Rattle.std.specs.Prelude.{◌≡◌, Ok, Err, Result}
use Rattle.store.specs.State.{State, state}
use Rattle.store.specs.Calls.{opening}
use Rattle.store.specs.declared.answer.Refusal.{Refusal}
use Rattle.store.specs.declared.opening.Opened.{Opened}

-- the image and the table that were opened
abbrev pub seen : Opened → State
seen o = state o.image.now o.table.now

-- opened, or refused by 4 or 5
abbrev pub OpenedAs : Result Opened Refusal → State → Type 0
OpenedAs (Ok o) x = seen o ≡ x
OpenedAs (Err r) x = Err r ≡ opening x
