-- The fault of a tree for what was missed in one.
use Rattle.tpl_json.specs.declared.miss.Miss.{Miss}
use Rattle.tpl_json.specs.declared.miss.Miss.TheVariants as miss
use Rattle.tpl_json.specs.declared.miss.Shape as declared
use Rattle.tpl_cert.specs.declared.fault.TreeFault.{TreeFault}
use Rattle.tpl_cert.specs.declared.fault.TreeFault.TheVariants.{Shape, Memory}

abbrev pub shape_fault : Miss declared.Shape → TreeFault
shape_fault (miss.Wrong wrong) = Shape
shape_fault miss.Memory = Memory

abbrev pub tree_fault : Miss TreeFault → TreeFault
tree_fault (miss.Wrong fault) = fault
tree_fault miss.Memory = Memory
