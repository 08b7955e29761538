use Rattle.pc_top.proofs.detailed.noted_details.Goals as goal

pub details_of-details-requires : goal.details_of-details-requires
details_of-details-requires c = record {
  scopes = c.requires;
  classes = c.in_ok-classes.ensures.classes;
  given = c.in_ok-classes.ensures.given;
}
