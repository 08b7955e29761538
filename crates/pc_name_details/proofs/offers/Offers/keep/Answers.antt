use Rattle.std.proofs.Common.{refl, ap}
use Rattle.std.specs.Prelude.{option_map}
use Rattle.std.specs.Ordering.{is_eq}
use Rattle.pc_tree.specs.declared.code.Finding.{Finding}
use Rattle.pc_detail_texts.specs.Shown.{detail_of_value}
use Rattle.pc_name_details.specs.Offered.{finding_cmp, is_wanted, kept_of}
use Rattle.pc_name_details.proofs.FindingsKept.{apart}
use Rattle.pc_name_details.proofs.offers.Offers.keep.Goals as goal

pub returns : goal.returns
unfolding is_wanted kept_of
returns c =
    let f : Finding = record { place = c.args.place; code = c.args.code } in
    record {
      wanted = λ g. refl;
      here = ap (option_map detail_of_value) c.in_ok-put.ensures.1;
      others = λ g other. ap (option_map detail_of_value)
          (c.in_ok-put.ensures.2 g (apart f g other (is_eq (finding_cmp f g)) refl));
    }
