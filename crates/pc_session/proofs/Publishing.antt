-- The last publication for an address, after more replies.
use Rattle.std.specs.List.{AllByRecursion}
use Rattle.std.specs.Prelude.{fold, find, filter, is_some, bytes_eq, ℤ}
use Rattle.std.proofs.Common.{◌≡◌, ℕ, Bool, true, false, cond, List, [], ◌∷◌, ◌++◌, map, Option, None, Some, refl, sym}
use Rattle.std.proofs.Common.{ap, ◌∙◌, inl, inr, true≢false}
use Rattle.std.proofs.lemmas.List.Sums.{fold-append}
use Rattle.serde_json.specs.Data.{Data}
use Rattle.pc_documents.specs.Diagnostics.{unknown_data}
use Rattle.pc_documents.specs.Documents.{has_uri, is_open, OpenDocument}
use Rattle.pc_session.specs.Replies.{publish_data}
use Rattle.pc_session.specs.Sessions.{unknown_of, told_of}
use Rattle.pc_session.specs.Shown.{is_publication, published_after, last_publication, AreDistinct, IsCleared}
use Rattle.pc_session.proofs.Addresses.{own}

-- ---- replies

-- the replies publish nothing for an address
abbrev pub Passes : List ℕ → List Data → Type 0
Passes uri replies = (last : Option Data) → fold (published_after uri) last replies ≡ last

pub more_passes : (uri : List ℕ) (sent replies : List Data) → Passes uri replies
    → last_publication uri (sent ++ replies) ≡ last_publication uri sent
more_passes uri sent replies passes =
    fold-append (published_after uri) None sent replies ∙ passes (last_publication uri sent)

pub publishes_is : (uri other : List ℕ) (version : Option ℤ) (diagnostics : List Data)
    → is_publication uri (publish_data other version diagnostics) ≡ bytes_eq other uri
publishes_is uri other None diagnostics = refl
publishes_is uri other (Some version) diagnostics = refl

-- one more publication is the last one for its own address, and leaves that for any other address unchanged
pub one_more : (uri other : List ℕ) (version : Option ℤ) (diagnostics : List Data) (last : Option Data)
    → published_after uri last (publish_data other version diagnostics)
    ≡ cond (bytes_eq other uri) (Some (publish_data other version diagnostics)) last
one_more uri other version diagnostics last =
    ap (λ t. cond t (Some (publish_data other version diagnostics)) last) (publishes_is uri other version diagnostics)

pub other_passes : (uri other : List ℕ) (version : Option ℤ) (diagnostics : List Data) → bytes_eq other uri ≡ false
    → Passes uri (publish_data other version diagnostics ∷ [])
other_passes uri other version diagnostics apart last = one_more uri other version diagnostics last
    ∙ ap (λ t. cond t (Some (publish_data other version diagnostics)) last) apart

pub own_shows : (uri : List ℕ) (version : Option ℤ) (diagnostics : List Data) (last : Option Data)
    → published_after uri last (publish_data uri version diagnostics) ≡ Some (publish_data uri version diagnostics)
own_shows uri version diagnostics last = one_more uri uri version diagnostics last
    ∙ ap (λ t. cond t (Some (publish_data uri version diagnostics)) last) (own uri)

pub cleared_more : (uri : List ℕ) (sent replies : List Data) → Passes uri replies → IsCleared uri sent
    → IsCleared uri (sent ++ replies)
cleared_more uri sent replies passes (inl none) = inl (more_passes uri sent replies passes ∙ none)
cleared_more uri sent replies passes (inr empty) = inr (more_passes uri sent replies passes ∙ empty)

-- where no text is known, what is told of all documents passes an address that none has, and shows each that is sent
module _ (sends : OpenDocument → Bool) where
  abbrev pub told : List OpenDocument → List Data
  told documents = map unknown_of (filter sends documents)

  pub told_passes : (uri : List ℕ) (documents : List OpenDocument) → is_open uri documents ≡ false
      → Passes uri (told documents)
  told_passes uri [] closed last = refl
  told_passes uri (d ∷ ds) closed last =
      let K = λ (t : Bool). has_uri uri d ≡ t → is_some (cond t (Some d) (find (has_uri uri) ds)) ≡ false
      → fold (published_after uri) last (told (d ∷ ds)) ≡ last in
      elim (has_uri uri d) as K [
        | true ↦ λ e c. absurd (true≢false c)
        | false ↦ λ e c.
            let M = λ (t : Bool). fold (published_after uri) last (map unknown_of (cond t (d ∷ filter sends ds)
            (filter sends ds))) ≡ last in
            elim (sends d) as M [
              | true ↦ ap (λ l. fold (published_after uri) l (told ds))
                  (other_passes uri d.uri d.version (unknown_data ∷ []) e last) ∙ told_passes uri ds c last
              | false ↦ told_passes uri ds c last
            ]
      ] refl closed

  -- where nothing is sent nothing is told
  pub told_none : (uri : List ℕ) (documents : List OpenDocument) → ((d : OpenDocument) → sends d ≡ false)
      → Passes uri (told documents)
  told_none uri [] none last = refl
  told_none uri (d ∷ ds) none last =
      let M = λ (t : Bool). t ≡ false → fold (published_after uri) last (map unknown_of (cond t (d ∷ filter sends ds)
      (filter sends ds))) ≡ last in
      elim (sends d) as M [
        | true ↦ λ e. absurd (true≢false e)
        | false ↦ λ e. told_none uri ds none last
      ] (none d)

  -- a document is shown by the publications that no text is known, whatever was published before
  abbrev pub IsTold : List Data → OpenDocument → Type 0
  IsTold replies d = sends d ≡ true → (last : Option Data)
      → fold (published_after d.uri) last replies ≡ Some (unknown_of d)

  pub each_told : (d : OpenDocument) (ds others : List OpenDocument) → AllByRecursion (IsTold (told ds)) others
      → AllByRecursion (IsTold (told (d ∷ ds))) others
  each_told d ds [] all = tt
  each_told d ds (other ∷ others) all = (
    λ s last.
        let M = λ (t : Bool). fold (published_after other.uri) last (map unknown_of (cond t (d ∷ filter sends ds)
        (filter sends ds))) ≡ Some (unknown_of other) in
        elim (sends d) as M [
          | true ↦ all.0 s (published_after other.uri last (unknown_of d))
          | false ↦ all.0 s last
        ],
    each_told d ds others all.1,
  )

  pub all_told : (documents : List OpenDocument) → AreDistinct documents
      → AllByRecursion (IsTold (told documents)) documents
  all_told [] distinct = tt
  all_told (d ∷ ds) distinct = (
    λ s last.
        let M = λ (t : Bool). t ≡ true → fold (published_after d.uri) last (map unknown_of (cond t
        (d ∷ filter sends ds) (filter sends ds))) ≡ Some (unknown_of d) in
        elim (sends d) as M [
          | true ↦ λ _. told_passes d.uri ds distinct.0 (published_after d.uri last (unknown_of d))
              ∙ own_shows d.uri d.version (unknown_data ∷ []) last
          | false ↦ λ e. absurd (true≢false (sym e))
        ] s,
    each_told d ds ds (all_told ds distinct.1),
  )

pub log_passes : (uri : List ℕ) (documents : List OpenDocument) → Passes uri (told_of documents)
log_passes uri [] last = refl
log_passes uri (d ∷ ds) last = refl
