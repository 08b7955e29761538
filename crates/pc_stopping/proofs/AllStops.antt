-- The walks find exactly the findings that stop a run.
use Rattle.std.proofs.Common.{◌≡◌, ◌↔◌, List, [], ◌∷◌, ◌++◌, refl, sym, ap, ◌∙◌, subst, Contains, Bool, true, false}
use Rattle.std.specs.Prelude.{◌&&◌}
use Rattle.std.proofs.lemmas.List.Elements.{Contains-append_left, Contains-append_right}
use Rattle.pc_source.specs.declared.place.Place.{Place}
use Rattle.pc_tree.specs.declared.code.Code.{Code}
use Rattle.pc_tree.specs.declared.code.Code.TheVariants.{E01, E05, E06, E28, E29, E31}
use Rattle.pc_tree.specs.declared.code.Finding.{Finding}
use Rattle.pc_tree.specs.Code.{finding, at_code}
use Rattle.pc_tree.specs.Tree.{Module}
use Rattle.pc_tree.specs.Stopping.{has_none, twice, outside_loop, clashing_members, no_main, reserved_bound}
use Rattle.pc_tree.specs.Stopping.{default_order, stopping_places, IsStopping, is_runnable}
use Rattle.pc_stopping.specs.Found.{found_in_scopes, found_in_classes}
use Rattle.pc_tree.proofs.Among.{none_among, either, in_code, to_code}

-- ---- there are findings where there are places

none_of_code : (c : Code) (ps : List Place) → has_none (at_code c ps) ≡ has_none ps
none_of_code c [] = refl
none_of_code c (p ∷ ps) = refl

none_of_both : {A : Type 0} (xs ys : List A) → has_none (xs ++ ys) ≡ (has_none xs && has_none ys)
none_of_both [] ys = refl
none_of_both (x ∷ xs) ys = refl

-- six tests, the third of them last
third_last : (t o c n r d : Bool) → ((t && (o && (n && (r && d)))) && c) ≡ (t && (o && (c && (n && (r && d)))))
third_last false o c n r d = refl
third_last true false c n r d = refl
third_last true true false n r d = and_false (n && (r && d))
  where
    and_false : (b : Bool) → (b && false) ≡ false
    and_false true = refl
    and_false false = refl
third_last true true true n r d = and_true (n && (r && d))
  where
    and_true : (b : Bool) → (b && true) ≡ b
    and_true true = refl
    and_true false = refl

module _ (m : Module) where
  abbrev found : List Finding
  found = found_in_scopes m ++ found_in_classes m

  abbrev none : Code → List Place → Bool
  none c ps = has_none (at_code c ps)

  none_in_scopes : has_none (found_in_scopes m) ≡ (has_none (twice m)
      && (has_none (outside_loop m) && (has_none (no_main m) && (has_none (reserved_bound m)
      && has_none (default_order m)))))
  none_in_scopes =
      none_of_both (at_code E01 (twice m)) _ ∙ (λ i. none_of_code E01 (twice m) i
      && (none_of_both (at_code E05 (outside_loop m)) (at_code E28 (no_main m)
      ++ (at_code E29 (reserved_bound m) ++ at_code E31 (default_order m))) i))
      ∙ (λ i. has_none (twice m) && (none_of_code E05 (outside_loop m) i && none_of_both (at_code E28 (no_main m))
      (at_code E29 (reserved_bound m) ++ at_code E31 (default_order m)) i))
      ∙ (λ i. has_none (twice m) && (has_none (outside_loop m) && (none_of_code E28 (no_main m) i && none_of_both
      (at_code E29 (reserved_bound m)) (at_code E31 (default_order m)) i)))
      ∙ (λ i. has_none (twice m) && (has_none (outside_loop m) && (has_none (no_main m)
      && (none_of_code E29 (reserved_bound m) i && none_of_code E31 (default_order m) i))))

  -- nothing is found exactly where the module runs
  pub none_found : has_none found ≡ is_runnable m
  none_found =
      none_of_both (found_in_scopes m) (found_in_classes m)
      ∙ (λ i. none_in_scopes i && none_of_code E06 (clashing_members m) i)
      ∙ third_last (has_none (twice m)) (has_none (outside_loop m)) (has_none (clashing_members m))
      (has_none (no_main m)) (has_none (reserved_bound m)) (has_none (default_order m))
      ∙ sym (none_of_both (twice m) _ ∙ ap (λ (b : Bool). has_none (twice m) && b) (none_of_both (outside_loop m) _
      ∙ ap (λ (b : Bool). has_none (outside_loop m) && b) (none_of_both (clashing_members m) _
      ∙ ap (λ (b : Bool). has_none (clashing_members m) && b) (none_of_both (no_main m) _
      ∙ ap (λ (b : Bool). has_none (no_main m) && b) (none_of_both (reserved_bound m) (default_order m))))))

-- ---- the findings and their places

module _ (m : Module) (f : Finding) where
  -- a finding at one of these places stops the run
  stopped : (c : Code) (ps : List Place) → (Contains ps f.place → IsStopping m f.place c) → Contains (at_code c ps) f
      → IsStopping m f.place f.code
  stopped c ps into h = let r = in_code c ps f h in subst (IsStopping m f.place) (sym r.0) (into r.1)

  -- a finding of scopes stops a run, and has one of the codes of scopes
  pub of_scopes : (P : Code → Type 0) → P E01 → P E05 → P E28 → P E29 → P E31 → Contains (found_in_scopes m) f
      → P f.code × IsStopping m f.place f.code
  of_scopes P one two three four five h =
      either (at_code E01 (twice m)) _ f h (with_code E01 (twice m) one (λ x. x))
      (λ h2. either (at_code E05 (outside_loop m)) _ f h2 (with_code E05 (outside_loop m) two (λ x. x))
      (λ h3. either (at_code E28 (no_main m)) _ f h3 (with_code E28 (no_main m) three (λ x. x))
      (λ h4. either (at_code E29 (reserved_bound m)) (at_code E31 (default_order m)) f h4
      (with_code E29 (reserved_bound m) four (λ x. x)) (with_code E31 (default_order m) five (λ x. x)))))
    where
      with_code : (c : Code) (ps : List Place) → P c → (Contains ps f.place → IsStopping m f.place c)
          → Contains (at_code c ps) f → P f.code × IsStopping m f.place f.code
      with_code c ps p into k = (subst P (sym (in_code c ps f k).0) p, stopped c ps into k)

  at : (c : Code) (ps : List Place) → f.code ≡ c → Contains ps f.place → Contains (at_code c ps) f
  at c ps e h = subst (Contains (at_code c ps)) (sym (ap (finding f.place) e)) (to_code c ps f.place h)

  pub to_twice : f.code ≡ E01 → Contains (twice m) f.place → Contains (found_in_scopes m) f
  to_twice e h = Contains-append_left (at_code E01 (twice m)) (at_code E05 (outside_loop m)
      ++ (at_code E28 (no_main m) ++ (at_code E29 (reserved_bound m) ++ at_code E31 (default_order m)))) f
      (at E01 (twice m) e h)

  behind_twice : Contains (at_code E05 (outside_loop m) ++ (at_code E28 (no_main m)
      ++ (at_code E29 (reserved_bound m) ++ at_code E31 (default_order m)))) f → Contains (found_in_scopes m) f
  behind_twice h = Contains-append_right (at_code E01 (twice m))
      (at_code E05 (outside_loop m) ++ (at_code E28 (no_main m) ++ (at_code E29 (reserved_bound m) ++ at_code E31
      (default_order m)))) f h

  pub to_loose : f.code ≡ E05 → Contains (outside_loop m) f.place → Contains (found_in_scopes m) f
  to_loose e h = behind_twice (Contains-append_left (at_code E05 (outside_loop m))
      (at_code E28 (no_main m) ++ (at_code E29 (reserved_bound m) ++ at_code E31 (default_order m))) f
      (at E05 (outside_loop m) e h))

  behind_loose : Contains (at_code E28 (no_main m) ++ (at_code E29 (reserved_bound m) ++ at_code E31 (default_order m)))
      f → Contains (found_in_scopes m) f
  behind_loose h = behind_twice (Contains-append_right (at_code E05 (outside_loop m))
      (at_code E28 (no_main m) ++ (at_code E29 (reserved_bound m) ++ at_code E31 (default_order m))) f h)

  pub to_main : f.code ≡ E28 → Contains (no_main m) f.place → Contains (found_in_scopes m) f
  to_main e h = behind_loose (Contains-append_left (at_code E28 (no_main m))
      (at_code E29 (reserved_bound m) ++ at_code E31 (default_order m)) f (at E28 (no_main m) e h))

  pub to_reserved : f.code ≡ E29 → Contains (reserved_bound m) f.place → Contains (found_in_scopes m) f
  to_reserved e h = behind_loose (Contains-append_right (at_code E28 (no_main m))
      (at_code E29 (reserved_bound m) ++ at_code E31 (default_order m)) f
      (Contains-append_left (at_code E29 (reserved_bound m)) (at_code E31 (default_order m)) f
      (at E29 (reserved_bound m) e h)))

  pub to_default : f.code ≡ E31 → Contains (default_order m) f.place → Contains (found_in_scopes m) f
  to_default e h = behind_loose (Contains-append_right (at_code E28 (no_main m))
      (at_code E29 (reserved_bound m) ++ at_code E31 (default_order m)) f
      (Contains-append_right (at_code E29 (reserved_bound m)) (at_code E31 (default_order m)) f
      (at E31 (default_order m) e h)))

  in_scopes : Contains (found_in_scopes m) f → Contains (found_in_scopes m ++ found_in_classes m) f
  in_scopes h = Contains-append_left (found_in_scopes m) (found_in_classes m) f h

  complete : (c : Code) → f.code ≡ c → IsStopping m f.place c → Contains (found_in_scopes m ++ found_in_classes m) f
  complete E01 e h = in_scopes (to_twice e h)
  complete E05 e h = in_scopes (to_loose e h)
  complete E06 e h = Contains-append_right (found_in_scopes m) (found_in_classes m) f (at E06 (clashing_members m) e h)
  complete E28 e h = in_scopes (to_main e h)
  complete E29 e h = in_scopes (to_reserved e h)
  complete E31 e h = in_scopes (to_default e h)
  complete _ e h = absurd (none_among f.place h)

  -- the findings of scopes and classes are exactly those that stop a run
  pub exactly : Contains (found_in_scopes m ++ found_in_classes m) f ↔ IsStopping m f.place f.code
  exactly = (
    λ h. either (found_in_scopes m) (found_in_classes m) f h
        (λ x. (of_scopes (λ c. Unit {0}) tt tt tt tt tt x).1) (λ x. stopped E06 (clashing_members m) (λ y. y) x),
    λ h. complete f.code refl h,
  )
