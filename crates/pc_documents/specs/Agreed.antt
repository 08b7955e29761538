-- The settings of a session as data. Own rule of the server.
use Rattle.std.specs.Prelude.{ℕ, Bool, List, Option, option_map, string_bytes}
use Rattle.pc_position.specs.declared.positions.Encoding.{Encoding}
use Rattle.pc_documents.specs.declared.settings.Settings.{Settings}

-- the settings agreed at `initialize`; a client that pulls diagnostics is sent none, and one that does not accept related
-- information gets none
pub record Agreed : Type 0 where
  pub encoding : Encoding
  pub dynamic_severity : ℕ
  pub codes_page : Option (List ℕ)
  pub pulls : Bool
  pub related : Bool

-- settings as data
abbrev pub agreed_of : Settings → Agreed
agreed_of settings = record {
  encoding = settings.encoding;
  dynamic_severity = settings.dynamic_severity;
  codes_page = option_map string_bytes settings.codes_page;
  pulls = settings.pulls;
  related = settings.related;
}
