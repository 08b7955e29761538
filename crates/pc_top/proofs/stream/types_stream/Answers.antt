use Rattle.std.proofs.Common.{ℕ, List, length, subst}
use Rattle.std.proofs.lemmas.Result.{err_from_is_err_and}
use Rattle.pc_source.specs.Answers.{OnRefusal}
use Rattle.pc_source.specs.Within.{IsWithin}
use Rattle.pc_front.specs.Bytes.{IsRefusalOf}
use Rattle.pc_top.specs.Headline.{Headline}
use Rattle.pc_top.specs.TypesOfBytes.{ListsTypesOf}
use Rattle.pc_top.proofs.ListingBytes.{listed_stream, listing_begun_stream}
use Rattle.pc_top.proofs.StreamBytes.{refused_stream, within_stream}
use Rattle.pc_top.proofs.stream.types_stream.Goals as goal

pub returns-in_err-listed-clause-refused : goal.returns-in_err-listed-clause-refused
returns-in_err-listed-clause-refused g c =
    let p = err_from_is_err_and c.from_residual-in_err-listed.result c.from_residual-in_err-listed.ensures.1 in
    let read = c.in_ok-given.ensures.read in
    let told = g.R.Read.remaining c.args.reader.now.device in
    rw (p.1, p.2) (refused_stream told _ c.in_ok-given.given.items read.given read.whole c.in_err-listed.field-0.0
    (subst (λ (l : List ℕ). OnRefusal (IsRefusalOf l) c.in_err-listed.field-0.0) c.as_slice.ensures.value
    c.in_err-listed.ensures.refused))

pub returns-in_err-listed-clause-within : goal.returns-in_err-listed-clause-within
returns-in_err-listed-clause-within g c =
    let p = err_from_is_err_and c.from_residual-in_err-listed.result c.from_residual-in_err-listed.ensures.1 in
    let read = c.in_ok-given.ensures.read in
    let told = g.R.Read.remaining c.args.reader.now.device in
    rw (p.1, p.2) (within_stream told _ c.in_ok-given.given.items read.given read.whole read.short
    c.in_err-listed.field-0.0
    (subst (λ (l : List ℕ). IsWithin (length l) c.in_err-listed.field-0.0) c.as_slice.ensures.value
    c.in_err-listed.ensures.within))

pub returns-in_err-write_listing-clause-begun : goal.returns-in_err-write_listing-clause-begun
returns-in_err-write_listing-clause-begun g c =
    let p = err_from_is_err_and c.from_residual-in_err-write_listing.result
    c.from_residual-in_err-write_listing.ensures.1 in
    let read = c.in_ok-given.ensures.read in
    let told = g.R.Read.remaining c.args.reader.now.device in
    let types = c.in_ok-listed.listed.listing in
    let lists : ListsTypesOf c.in_ok-given.given.items types = subst (λ (l : List ℕ). ListsTypesOf l types)
    c.as_slice.ensures.value c.in_ok-listed.ensures.lists in
    rw (p.1, p.2) (listing_begun_stream told _ c.in_ok-given.given.items read.given read.whole g.W.Write.contents
    c.args.json c.args.writer.now c.write_listing.new.writer types lists
    c.in_err-write_listing.field-0.0 c.in_err-write_listing.ensures)

pub returns-clause-listed : goal.returns-clause-listed
returns-clause-listed g c =
    let read = c.in_ok-given.ensures.read in
    let told = g.R.Read.remaining c.args.reader.now.device in
    let counted = c.in_ok-listed.ensures.counted in
    let types = c.in_ok-listed.listed.listing in
    let headline : Headline c.in_ok-given.given.items counted.0 = subst (λ (l : List ℕ). Headline l counted.0)
    c.as_slice.ensures.value counted.1 in
    let lists : ListsTypesOf c.in_ok-given.given.items types = subst (λ (l : List ℕ). ListsTypesOf l types)
    c.as_slice.ensures.value c.in_ok-listed.ensures.lists in
    listed_stream told _ c.in_ok-given.given.items read.given read.whole g.W.Write.contents c.args.json
    c.args.writer.now c.write_listing.new.writer types lists counted.0 headline
    _ _ counted.2 counted.3 c.in_ok-write_listing.ensures
