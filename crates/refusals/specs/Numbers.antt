-- The paper's number of each refusal and of each component. 10 and 11 are the run list's, 15 is the guarded block's; 12
-- to 14 are for change requests to come.
use Rattle.std.specs.Prelude.{ℕ}
use Rattle.refusals.specs.declared.Refusal.{Refusal}
use Rattle.refusals.specs.declared.Refusal.TheVariants.{Side, Qp, Lambda, Cost, Length, Sample, Level, Price}
use Rattle.refusals.specs.declared.Refusal.TheVariants.{Distortion, Room, Symbol, Height}
use Rattle.refusals.specs.declared.Component.{Component}
use Rattle.refusals.specs.declared.Component.TheVariants.{Y, U, «V»}

abbrev pub number_of : Refusal → ℕ
number_of Side = 1
number_of Qp = 2
number_of Lambda = 3
number_of Cost = 4
number_of Length = 5
number_of Sample = 6
number_of Level = 7
number_of Price = 8
number_of Distortion = 9
number_of Room = 10
number_of Symbol = 11
number_of Height = 15

abbrev pub component_of : Component → ℕ
component_of Y = 0
component_of U = 1
component_of «V» = 2
