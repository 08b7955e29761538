-- Sentences, case by case of the program's values.
use Rattle.std.proofs.Common.{◌≡◌, refl}
use Rattle.pc_detail_texts.specs.declared.details.RuleFault.{RuleFault}
use Rattle.pc_detail_texts.specs.declared.details.RuleFault.TheVariants as rule
use Rattle.pc_detail_texts.specs.declared.details.Holder.{Holder}
use Rattle.pc_detail_texts.specs.declared.details.Holder.TheVariants as holder
use Rattle.pc_detail_texts.specs.Sentences.{Words, sink_text, flow_end, error_sentence, doubt}
use Rattle.pc_detail_texts.specs.Shown.{holder_of_value, rule_fault_of_value}

-- at the end of a sentence such a place is written as it is elsewhere
pub holder_ends : (into : Words) (s : Holder) → flow_end into (holder_of_value s) ≡ sink_text into (holder_of_value s)
holder_ends into (holder.Parameter n c) = refl
holder_ends into (holder.Field m) = refl
holder_ends into (holder.Local n) = refl
holder_ends into (holder.LoopTarget n) = refl
holder_ends into (holder.Constant n) = refl
holder_ends into (holder.ParameterDefault n f) = refl
holder_ends into (holder.FieldDefault m) = refl
holder_ends into (holder.Item t) = refl
holder_ends into (holder.Key t) = refl
holder_ends into (holder.Value t) = refl
holder_ends into (holder.Index t) = refl

-- a fault against a rule has one sentence, whatever the code
pub rule_doubt : (f : RuleFault) → doubt (rule_fault_of_value f) ≡ error_sentence (rule_fault_of_value f)
rule_doubt (rule.NotAValue v) = refl
rule_doubt (rule.NoReturn f t) = refl
rule_doubt (rule.Keys ts) = refl
rule_doubt (rule.MethodStore f) = refl
rule_doubt (rule.NoTest n) = refl
rule_doubt (rule.Size n) = refl
rule_doubt rule.RangeElsewhere = refl
rule_doubt (rule.Twice n e) = refl
rule_doubt (rule.UnknownName n e) = refl
rule_doubt (rule.Early e) = refl
rule_doubt (rule.Unassigned n bound) = refl
rule_doubt (rule.OutsideLoop w) = refl
rule_doubt (rule.Member m at) = refl
rule_doubt (rule.Base n later) = refl
rule_doubt (rule.FieldOrder l class) = refl
rule_doubt (rule.Annotation fault) = refl
rule_doubt (rule.Union clash) = refl
rule_doubt (rule.LateAnnotation n at) = refl
rule_doubt (rule.Main why) = refl
rule_doubt (rule.Reserved n) = refl
rule_doubt (rule.Unreachable w at) = refl
rule_doubt (rule.DefaultOrder l) = refl
