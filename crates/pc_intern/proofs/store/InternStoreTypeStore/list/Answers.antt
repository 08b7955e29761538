use Rattle.std.proofs.Common.{◌∷◌, [], ap}
use Rattle.pc_types.specs.Tree.{ListOf}
use Rattle.pc_types.specs.Boxed.{tree_of}
use Rattle.pc_types.specs.declared.head.Head.TheVariants as heads
use Rattle.pc_intern.specs.Store.{tree_of_type}
use Rattle.pc_intern.proofs.Held.{known_as, one_number, held_within, means_now, answer_none, answer_some}
use Rattle.pc_intern.proofs.store.InternStoreTypeStore.list.Goals as goal

pub returns-in-Some-clause-value : goal.returns-in-Some-clause-value
returns-in-Some-clause-value c =
    let us = tree_of_type c.args.item.now ∷ [] in
    known_as c.args.self.now c.in-Some.known heads.List us c.in-Some.ensures.held c.in-Some.ensures.head
    (c.in-Some.ensures.parts us (one_number c.args.self.now c.in_ok-numbers.numbers.items c.args.item.now
    c.in_ok-numbers.ensures.ok c.requires))

pub ty-requires : goal.ty-requires
ty-requires c = held_within c.self.inside.table c.args.self.now c.args.item.now c.self.view_is c.requires

pub returns-in-None-clause-value : goal.returns-in-None-clause-value
returns-in-None-clause-value c =
    answer_none c.in_ok-list.field-0 (ListOf (tree_of c.ty.result.now)) (ListOf (tree_of_type c.args.item.now)) c.in-None.is
    (ap ListOf (means_now c.self.inside.table c.args.self.now c.args.item.now c.ty.result.now c.self.view_is c.requires
    c.ty.ensures.value)) c.in_ok-list.ensures.value

pub returns-in_ok-made-in-Some-2-clause-value : goal.returns-in_ok-made-in-Some-2-clause-value
returns-in_ok-made-in-Some-2-clause-value c =
    answer_some c.made.new.self c.in_ok-list.field-0 c.in-Some-2.ty c.in_ok-made-in-Some-2.field-0
    (ListOf (tree_of c.ty.result.now)) (ListOf (tree_of_type c.args.item.now)) c.in-Some-2.is
    (ap ListOf (means_now c.self.inside.table c.args.self.now c.args.item.now c.ty.result.now c.self.view_is c.requires
    c.ty.ensures.value)) c.in_ok-list.ensures.value c.in_ok-made-in-Some-2.ensures.value
