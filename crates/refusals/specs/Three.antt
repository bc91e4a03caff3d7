-- Of a value for each component, that of one.
use Rattle.refusals.specs.declared.Component.{Component}
use Rattle.refusals.specs.declared.Component.TheVariants.{Y, U, «V»}
use Rattle.refusals.specs.declared.Three.{Three}

abbrev pub part_of : {T : Type 0} → Component → Three T → T
part_of Y three = three.y
part_of U three = three.u
part_of «V» three = three.v
