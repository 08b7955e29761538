use Rattle.std.proofs.Common.{refl, ap}
use Rattle.std.specs.Prelude.{option_map}
use Rattle.std.specs.Ordering.{is_eq}
use Rattle.pc_detail_texts.specs.Shown.{detail_of_value}
use Rattle.pc_name_details.specs.Offered.{finding_cmp, kept_of}
use Rattle.pc_name_details.proofs.FindingsKept.{apart}
use Rattle.pc_name_details.proofs.offers.Offers.take.Goals as goal

pub returns : goal.returns
unfolding kept_of
returns c =
    let f = c.args.finding in
    record {
      taken = ap (option_map detail_of_value) c.remove.ensures.value;
      gone = ap (option_map detail_of_value) c.remove.ensures.updates.1;
      others = λ g other. ap (option_map detail_of_value)
          (c.remove.ensures.updates.2 g (apart f g other (is_eq (finding_cmp f g)) refl));
    }
