-- Bits, or a number within the kind's limit.
use Rattle.requests.specs.Request.{field_of}
use Rattle.requests.proofs.Fields.{natural_within}
use Rattle.requests.proofs.kinds.Kind.read.Goals as goal

pub returns-in-Component-clause-value : goal.returns-in-Component-clause-value
unfolding field_of
returns-in-Component-clause-value c = rw c.in-Component.is c.read_natural.ensures

pub returns-in-Component-clause-within : goal.returns-in-Component-clause-within
returns-in-Component-clause-within c = rw c.in-Component.is (natural_within _ _ _ c.read_natural.ensures)

pub returns-in-Short-clause-value : goal.returns-in-Short-clause-value
unfolding field_of
returns-in-Short-clause-value c = rw c.in-Short.is c.read_natural-in-Short.ensures

pub returns-in-Short-clause-within : goal.returns-in-Short-clause-within
returns-in-Short-clause-within c = rw c.in-Short.is (natural_within _ _ _ c.read_natural-in-Short.ensures)

pub returns-in-Double-clause-value : goal.returns-in-Double-clause-value
unfolding field_of
returns-in-Double-clause-value c = rw c.in-Double.is c.read_bits.ensures

pub returns-in-Long-clause-value : goal.returns-in-Long-clause-value
unfolding field_of
returns-in-Long-clause-value c = rw c.in-Long.is c.read_natural-in-Long.ensures
