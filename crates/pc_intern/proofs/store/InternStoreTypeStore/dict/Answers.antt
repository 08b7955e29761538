use Rattle.std.proofs.Common.{◌≡◌, ◌∷◌, [], sym, subst}
use Rattle.pc_types.specs.Tree.{DictOf}
use Rattle.pc_types.specs.Normal.{IsKey}
use Rattle.pc_types.specs.Boxed.{tree_of}
use Rattle.pc_types.specs.declared.head.Head.TheVariants as heads
use Rattle.pc_intern.specs.Store.{tree_of_type}
use Rattle.pc_intern.proofs.Held.{known_as, two_numbers, held_within, means_now, answer_none, answer_some}
use Rattle.pc_intern.proofs.store.InternStoreTypeStore.dict.Goals as goal

pub returns-in-Some-clause-value : goal.returns-in-Some-clause-value
returns-in-Some-clause-value c =
    let us = tree_of_type c.args.key.now ∷ tree_of_type c.args.value.now ∷ [] in
    known_as c.args.self.now c.in-Some.known heads.Dict us c.in-Some.ensures.held c.in-Some.ensures.head
    (c.in-Some.ensures.parts us (two_numbers c.args.self.now c.in_ok-numbers.numbers.items c.args.key.now
    c.args.value.now c.in_ok-numbers.ensures.ok c.requires.key c.requires.value))

pub ty-key-requires : goal.ty-key-requires
ty-key-requires c = held_within c.self.inside.table c.args.self.now c.args.key.now c.self.view_is c.requires.key

pub ty-value-requires : goal.ty-value-requires
ty-value-requires c = held_within c.self.inside.table c.args.self.now c.args.value.now c.self.view_is c.requires.value

pub dict-requires-clause-suits : goal.dict-requires-clause-suits
dict-requires-clause-suits c =
    subst (λ t. IsKey t) (sym (means_now c.self.inside.table c.args.self.now c.args.key.now c.ty-key.result.now
    c.self.view_is c.requires.key c.ty-key.ensures.value)) c.requires.suits

pub returns-in-None-clause-value : goal.returns-in-None-clause-value
returns-in-None-clause-value c =
    let k : tree_of c.ty-key.result.now ≡ tree_of_type c.args.key.now = means_now c.self.inside.table c.args.self.now
    c.args.key.now c.ty-key.result.now c.self.view_is c.requires.key c.ty-key.ensures.value in
    let v : tree_of c.ty-value.result.now ≡ tree_of_type c.args.value.now = means_now c.self.inside.table c.args.self.now
    c.args.value.now c.ty-value.result.now c.self.view_is c.requires.value c.ty-value.ensures.value in
    answer_none c.in_ok-dict.field-0 (DictOf (tree_of c.ty-key.result.now) (tree_of c.ty-value.result.now))
    (DictOf (tree_of_type c.args.key.now) (tree_of_type c.args.value.now)) c.in-None.is
    (λ i. DictOf (k i) (v i)) c.in_ok-dict.ensures.value

pub returns-in_ok-made-in-Some-2-clause-value : goal.returns-in_ok-made-in-Some-2-clause-value
returns-in_ok-made-in-Some-2-clause-value c =
    let k : tree_of c.ty-key.result.now ≡ tree_of_type c.args.key.now = means_now c.self.inside.table c.args.self.now
    c.args.key.now c.ty-key.result.now c.self.view_is c.requires.key c.ty-key.ensures.value in
    let v : tree_of c.ty-value.result.now ≡ tree_of_type c.args.value.now = means_now c.self.inside.table c.args.self.now
    c.args.value.now c.ty-value.result.now c.self.view_is c.requires.value c.ty-value.ensures.value in
    answer_some c.made.new.self c.in_ok-dict.field-0 c.in-Some-2.ty c.in_ok-made-in-Some-2.field-0
    (DictOf (tree_of c.ty-key.result.now) (tree_of c.ty-value.result.now))
    (DictOf (tree_of_type c.args.key.now) (tree_of_type c.args.value.now)) c.in-Some-2.is
    (λ i. DictOf (k i) (v i)) c.in_ok-dict.ensures.value c.in_ok-made-in-Some-2.ensures.value
