-- The texts of types as details tell them. Own rule of the profile.
use Rattle.std.specs.Prelude.{List, if◌then◌else◌, find, Option, Some, None}
use Rattle.std.specs.Option.{option_map, option_and_then}
use Rattle.pc_source.specs.declared.place.Place.{Place}
use Rattle.pc_tree.specs.Tree.{Ann, Module}
use Rattle.pc_types.specs.Tree.{Tree}
use Rattle.pc_annotations.specs.Text.{type_text}
use Rattle.pc_detail_texts.specs.Details as detail
use Rattle.pc_detail_texts.specs.Details.{Detail}
use Rattle.pc_detail_texts.specs.Mapped.{map_detail, map_sink}
use Rattle.pc_detail_texts.specs.Sentences.{Words}
use Rattle.pc_detail_texts.specs.Shortened.{shortened}
use Rattle.pc_detail_rules.specs.Sinks.{SinkAt, takes_into}
use Rattle.pc_detail_rules.specs.Written.{ann_text, denotes}

module _ (m : Module) where
  -- the text of a type, of at most 200 bytes
  abbrev pub told_type : Tree → Words
  told_type t = shortened (type_text m t)

  -- the text of the type of a target, of at most 200 bytes: that of its annotation, if it has one that denotes the type
  abbrev pub told_target : Option Ann → Tree → Words
  told_target None t = told_type t
  told_target (Some a) t = if denotes m a t then shortened (ann_text a) else told_type t

  -- a flow of two types into a sink as it is told
  abbrev pub told_flow : (from into : Tree) → SinkAt → Detail Words
  told_flow s t sink = detail.flow (told_type s) (told_target sink.written t) (map_sink told_type sink.sink)

  -- a flow at a place as it is told, if there is one, with the first of some sinks that takes it
  abbrev pub told_among : List SinkAt → Place → Option (Tree × Tree) → Option (Detail Words)
  told_among ss p types =
      option_and_then (λ st. option_map (told_flow st.0 st.1) (find (takes_into p st.1) ss)) types

  -- a detail as it is told, given the annotation of the target, if it is a flow into one that has one
  abbrev pub told_detail : Option Ann → Detail Tree → Detail Words
  told_detail a (detail.flow s t sink) = detail.flow (told_type s) (told_target a t) (map_sink told_type sink)
  told_detail a d = map_detail told_type d
