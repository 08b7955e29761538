use Rattle.pc_top.proofs.stream.counted_listing.Goals as goal

pub returns-clause-counted : goal.returns-clause-counted
returns-clause-counted c = (
  c.in_ok-report.report,
  c.in_ok-report.ensures.headline,
  c.errors.ensures,
  c.dynamic.ensures,
)
