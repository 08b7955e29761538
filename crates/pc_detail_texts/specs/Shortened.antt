-- Texts of names and types as details tell them: of at most 200 bytes. Own rule of the profile.
use Rattle.std.specs.Prelude.{◌≡◌, length, nat_lt}
use Rattle.std.specs.Fmt.Cut.{cut_to}
use Rattle.std.specs.Fmt.InlineText.{inline_text}
use Rattle.pc_detail_texts.specs.Sentences.{Words}
use Rattle.pc_detail_texts.specs.declared.short_text.ShortText.{ShortText}

-- a text; one of over 200 bytes is cut before a character, and ends in three dots
unfoldable pub shortened : Words → Words
shortened text = cut_to 200 text

-- a growing text keeps of a whole text what details tell of it
pub record KeepsText (short : ShortText) (whole : Words) : Type 0 where
  pub kept : inline_text short.kept ≡ shortened whole
  pub cut : short.is_cut ≡ nat_lt 200 (length whole)
