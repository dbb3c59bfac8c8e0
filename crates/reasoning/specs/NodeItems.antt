-- The items that a node stands for, in order.
use Rattle.std.specs.Prelude.{List, [], ◌∷◌, ◌++◌}
use Rattle.reasoning.specs.declared.trace.TraceNode.{TraceNode, Nothing, One', Both'}

abbrev pub items_of : {T : Type 0} → TraceNode T → List T
items_of Nothing = []
items_of (One' p before item) = items_of before ++ item.value ∷ []
items_of (Both' p before q after) = items_of before ++ items_of after
