use Rattle.pc_annotations.specs.Bases.{bases_of}
use Rattle.pc_annotations.proofs.Earlier.{smaller}
use Rattle.pc_class.specs.Facts.{classes_of}
use Rattle.pc_sound.proofs.Heap.FurnishedHeaps.{is_needed}
use Rattle.pc_sound.proofs.Values.ReadTypes.{module_fields_without}
use Rattle.pc_sound.proofs.Modules.NeededFlows.{flow_is_needed}
use Rattle.pc_sound.proofs.laws.dynamic_flows_are_needed.Goals as goal

pub returns : goal.returns
returns c = record {
  classes = is_needed;
  modules = λ m ts h s t. is_needed (bases_of m) (smaller m) (classes_of m) (module_fields_without m ts h) s t;
  flows = flow_is_needed;
}
