use Rattle.std.proofs.Common.{◌≡◌, length, sym, ◌∙◌, true, arith}
use Rattle.std.proofs.lemmas.Grind.{common_steps}
use Rattle.pc_annotations.proofs.Dicts.{is_key_head, dict_none, dict_some}
use Rattle.pc_annotations.proofs.built.dict_of.Goals as goal
use Rattle.pc_annotations.proofs.built.dict_of.Goals.{in-None, in-Some+in_ok-ty-in-Some}

pub returns-clause-value : goal.returns-clause-value
returns-clause-value g c ts r =
    let kinds = c.args.arguments.now.heads.items in
    let h = c.index.result.now in
    let n : length kinds ≡ 2 = sym (c.len.ensures ∙ c.args.arguments.now.heads.ok.0) ∙ c.if-len-ne2.false in
    let y : is_key_head h ≡ true = grind (arith, common_steps) in
    elim c.match-arguments.branch [
      | in-None w ↦ rw w.ty-is (dict_none g.S.TypeStore.has g.S.TypeStore.tree c.args.store.now c.match-arguments.store
          kinds c.args.arguments.now.types ts h r w.in-None.is n c.index.ensures y)
      | in-Some+in_ok-ty-in-Some w ↦ rw (w.ty-is, w.store-is) (dict_some g.S.TypeStore.has g.S.TypeStore.tree
          c.args.store.now w.dict.new.self kinds c.args.arguments.now.types w.in-Some.types ts h w.in_ok-ty-in-Some.ty
          w.index-in-Some.result.now w.index-in-Some-2.result.now r w.in-Some.is n c.index.ensures y
          w.index-in-Some.ensures w.index-in-Some-2.ensures w.in_ok-ty-in-Some.ensures.value)
    ]
