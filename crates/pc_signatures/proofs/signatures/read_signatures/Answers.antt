use Rattle.std.proofs.Common.{ap, sym, subst, ◌∙◌}
use Rattle.std.proofs.lemmas.List.Elements.{All-map}
use Rattle.pc_callables.specs.SignaturesRead.{HasSignatures, signatures_with}
use Rattle.pc_rules.proofs.Kept.{entries_kept}
use Rattle.pc_callables.proofs.HeldSignatures.{signatures_kept}
use Rattle.pc_signatures.proofs.MethodsSeen.{all_seen}
use Rattle.pc_signatures.proofs.signatures.read_signatures.Goals as goal

pub read_items-requires : goal.read_items-requires
read_items-requires g c =
    let has = g.S.TypeStore.has in
    let tree = g.S.TypeStore.tree in
    let store = c.read_functions.new.state.store.now in
    let typed = c.in_ok-functions.ensures.typed in
    record {
      outline = c.requires.outline;
      classes = c.requires.classes;
      entries = entries_kept (has c.args.state.now.store.now) (has store) c.read_functions.ensures.goes_on.kept _
          c.requires.entries;
      functions = record {
        given = subst (HasSignatures (has store)) (sym c.deref.ensures.value) typed.given;
        are = ap (signatures_with tree) c.deref.ensures.value ∙ typed.are;
      };
    }

pub returns-clause-held : goal.returns-clause-held
returns-clause-held g c =
    let has = g.S.TypeStore.has in
    let store = c.read_items.new.state.store.now in
    let read = c.in_ok-read.ensures.held in
    record {
      constants = read.constants;
      functions = signatures_kept has c.read_functions.new.state.store.now store c.read_items.ensures.goes_on.kept
          c.in_ok-functions.functions.items c.in_ok-functions.ensures.typed.given;
      methods = All-map (HasSignatures (has store)) (λ v. v.items) c.in_ok-read.read.methods.items read.methods;
    }

pub returns-clause-methods : goal.returns-clause-methods
returns-clause-methods g c = all_seen g.S.TypeStore.tree c.in_ok-read.read.methods.items ∙ c.in_ok-read.ensures.methods
