-- The targets of the arguments of a call, as a list.
-- Own rule of the profile.
use Rattle.std.specs.Prelude.{List}
use Rattle.pc_class.specs.declared.table.Parameter.{Parameter as RustParameter}
use Rattle.pc_class.specs.declared.listing.Listing.{Listing}
use Rattle.pc_class.specs.declared.listing.Listing.TheVariants as listing
use Rattle.pc_class.specs.FieldLists.{fields_in}

-- the parameters of a list, or the fields of a class
abbrev pub listed_in : {Ty : Type 0} → Listing Ty → List (RustParameter Ty)
listed_in (listing.Parameters params) = params.now
listed_in (listing.Fields table class) = fields_in table.now class
