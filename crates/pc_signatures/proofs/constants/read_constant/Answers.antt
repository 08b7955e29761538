use Rattle.pc_callables.proofs.HeldSignatures.{globals_kept}
use Rattle.pc_signatures.proofs.constants.read_constant.Goals as goal

pub check_annotated-requires-clause-globals : goal.check_annotated-requires-clause-globals
check_annotated-requires-clause-globals g c = globals_kept g.S.TypeStore.has g.S.TypeStore.tree
    c.args.state.now.store.now c.read_annotation.new.state.store.now c.args.globals.now
    c.read_annotation.ensures.goes_on.kept c.requires.globals
