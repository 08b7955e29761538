use Rattle.std.proofs.Common.{ap, sym, ◌∙◌}
use Rattle.pc_grammar.specs.Machine.Kinds.{lead_of}
use Rattle.pc_parse.proofs.Lines.{ahead_kind}
use Rattle.pc_parse.proofs.parser.Parser.lead.Goals as goal

pub returns-in-Some : goal.returns-in-Some
returns-in-Some g c = λ t h. ap lead_of (sym (ahead_kind (sym c.kind.ensures ∙ c.in-Some.is) h)) ∙ sym c.lead_of.ensures
