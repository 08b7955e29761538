-- Each finding of a module that a text spells has a detail, and each wrong call of one a misfit.
use Rattle.pc_tree.specs.declared.code.Code.{Code}
use Rattle.pc_tree.specs.declared.code.Code.TheVariants.{A1, A8, E09, E10, E11, E12, E14, E20, E23}
use Rattle.pc_tree.specs.Tree.{Module}
use Rattle.pc_detail_rules.specs.Laws.{IsFit}
use Rattle.pc_detail_rules.specs.Texts.{HasOwn, TextsHaveOwnPlaces, IsShownFor, EveryFindingOfTextsIsExplained}
use Rattle.pc_detail_rules.specs.Texts.{WrongCallsOfTextsHaveMisfits}
use Rattle.pc_detail_rules.proofs.Explained.Whole.{every_explained}
use Rattle.pc_detail_rules.proofs.Explained.WrongCalls.{wrong_calls}
use Rattle.pc_detail_rules.proofs.Spelled.Layouts.{laid_out}
use Rattle.pc_detail_rules.proofs.Spelled.Modules.{own_places, own_names}

pub own_of_texts : TextsHaveOwnPlaces
own_of_texts bytes m h =
    let order = laid_out bytes h.tokens h.laid_out in record {
      places = own_places m h.tokens order h.spelled.spelled;
      names = own_names m h.tokens order h.spelled.spelled;
    }

fit : (m : Module) (c : Code) → HasOwn m → IsShownFor m c → IsFit m c
fit m A1 own shown = own.places
fit m E12 own shown = own.places
fit m E14 own shown = own.places
fit m E20 own shown = own.places
fit m E23 own shown = own.places
fit m A8 own shown = own.names
fit m E11 own shown = own.names
fit m E09 own shown = shown
fit m E10 own shown = shown
fit m _ own shown = tt

pub every_explained_of_texts : EveryFindingOfTextsIsExplained
every_explained_of_texts bytes m f h shown found =
    every_explained m f (fit m f.code (own_of_texts bytes m h) shown) found

pub wrong_calls_of_texts : WrongCallsOfTextsHaveMisfits
wrong_calls_of_texts bytes m p h found = wrong_calls m p (own_of_texts bytes m h).places found
