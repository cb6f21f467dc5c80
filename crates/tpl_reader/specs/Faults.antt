-- What is said of a document for what is wrong with a part of it, or for want of memory.
use Rattle.std.specs.Prelude.{ℕ, Bool, true, false, if◌then◌else◌}
use Rattle.tpl_draft.specs.declared.fault.Why.{Why}
use Rattle.tpl_draft.specs.declared.fault.Why.TheVariants as why
use Rattle.tpl_draft.specs.declared.fault.GraphFault.{GraphFault}
use Rattle.tpl_cert.specs.declared.fault.TreeFault.{TreeFault}
use Rattle.tpl_json.specs.declared.miss.Miss.{Miss}
use Rattle.tpl_json.specs.declared.miss.Miss.TheVariants as miss
use Rattle.tpl_reader.specs.declared.fault.Part.{Part}
use Rattle.tpl_reader.specs.declared.fault.ClaimFault.{ClaimFault}
use Rattle.tpl_reader.specs.declared.fault.StartFault.{StartFault}
use Rattle.tpl_reader.specs.declared.fault.ReadFault.{ReadFault}
use Rattle.tpl_reader.specs.declared.fault.ReadFault.TheVariants.{Shape, Graph, Claim, Certificate, Start, Memory}

abbrev pub shape_fault : Miss Part → ReadFault
shape_fault (miss.Wrong part) = Shape part
shape_fault miss.Memory = Memory

abbrev pub claim_fault : Miss (ℕ × ClaimFault) → ReadFault
claim_fault (miss.Wrong (number, fault)) = Claim number fault
claim_fault miss.Memory = Memory

abbrev pub tree_fault : Miss (ℕ × TreeFault) → ReadFault
tree_fault (miss.Wrong (number, fault)) = Certificate number fault
tree_fault miss.Memory = Memory

abbrev pub start_fault : Miss StartFault → ReadFault
start_fault (miss.Wrong fault) = Start fault
start_fault miss.Memory = Memory

abbrev pub is_memory : Why → Bool
is_memory why.Memory = true
is_memory other = false

abbrev pub graph_fault : GraphFault → ReadFault
graph_fault fault = if is_memory fault.why then Memory else Graph fault
