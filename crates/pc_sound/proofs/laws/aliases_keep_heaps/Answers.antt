use Rattle.pc_sound.proofs.Heap.Heaps.{append_keeps, store_keeps}
use Rattle.pc_sound.proofs.laws.aliases_keep_heaps.Goals as goal

pub returns : goal.returns
returns c = record { append = append_keeps; store = store_keeps }
