-- One after another: an answer that is given only past a verdict, and the answers of the three components as one, which
-- is the first refusal, or what was coded of each.
use Rattle.refusals.specs.declared.Three.{Three}
use Rattle.refusals.specs.Faults.{Outcome, accepted, refused}

abbrev pub past : {A : Type 0} → Outcome Unit → Outcome A → Outcome A
past (accepted u) a = a
past (refused n c) a = refused n c

abbrev pub joined : {A : Type 0} → (y u v : Outcome A) → Outcome (Three A)
joined (refused n c) u v = refused n c
joined (accepted a) (refused n c) v = refused n c
joined (accepted a) (accepted b) (refused n c) = refused n c
joined (accepted a) (accepted b) (accepted c) = accepted (record { y = a; u = b; v = c })
