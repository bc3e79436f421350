-- The descriptor that is looked up stands before p, and the last field at or before o tells. Assumes nothing.
use Rattle.std.proofs.Common.{arith, ◌∙◌, sym}
use Rattle.std.proofs.lemmas.Grind.{common_steps}
use Rattle.descriptors.specs.laws.Lookups.{found_at}
use Rattle.descriptors.specs.laws.Lists.{head_here, length_here, whole_here, named_stands}
use Rattle.descriptors.specs.laws.Layouts.{field_at_lem, field_unnamed, last_at, type_itself, type_no_field, type_by_field}
use Rattle.descriptors.proofs.layout.+field_has_type_has.Goals as goal

-- the field is read
pub field_has-read_field-f-requires : goal.field_has-read_field-f-requires
field_has-read_field-f-requires t c = grind (arith, common_steps, length_here, whole_here)

-- its type is described before p
pub field_has-type_has-requires : goal.field_has-type_has-requires
field_has-type_has-requires t c =
    let stands = c.requires.stands in
    let named = sym c.find_type.ensures ∙ c.in-Some.is in
    let found = found_at _ _ _ _ stands.whole named in
    (omega arith, named_stands _ _ stands _ _ named)

-- its type is not listed
pub field_has-returns-in-None : goal.field_has-returns-in-None
field_has-returns-in-None t c = grind (arith, common_steps, field_unnamed)

-- its type tells
pub field_has-returns-in-Some : goal.field_has-returns-in-Some
field_has-returns-in-Some t c = grind (arith, common_steps, field_at_lem)

pub type_has-read_descriptor-d-requires : goal.type_has-read_descriptor-d-requires
type_has-read_descriptor-d-requires t c = head_here _ _ c.requires

-- it is the wanted one
pub type_has-returns-then-o-eq0 : goal.type_has-returns-then-o-eq0
type_has-returns-then-o-eq0 t c = grind (arith, common_steps, type_itself)

pub type_has-field_count-requires : goal.type_has-field_count-requires
type_has-field_count-requires t c = grind (arith, common_steps, length_here)

pub type_has-last_field-requires : goal.type_has-last_field-requires
type_has-last_field-requires t c = grind (arith, common_steps, length_here, whole_here)

-- the field that is asked
pub type_has-field_has-requires : goal.type_has-field_has-requires
type_has-field_has-requires t c =
    let last = last_at _ _ _ _ _ (sym c.last_field.ensures ∙ c.in-Some.is) in
    (omega arith, (c.requires, (grind (arith, common_steps, last.below), last.starts)))

-- no field starts at or before o
pub type_has-returns-in-None : goal.type_has-returns-in-None
type_has-returns-in-None t c = grind (arith, common_steps, type_no_field)

-- the last that does tells
pub type_has-returns-in-Some : goal.type_has-returns-in-Some
type_has-returns-in-Some t c = grind (arith, common_steps, type_by_field)
