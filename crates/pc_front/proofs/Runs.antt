-- Runs of bytes at the front of a text.
use Rattle.std.proofs.Common.{◌≡◌, ℕ, ◌≤◌, List, [], ◌∷◌, ◌++◌, Bool, true, false, ◌⊎◌, length, get_or, refl, ap, inl}
use Rattle.std.proofs.Common.{inr, arith, cond, take, ◌+◌, ◌∙◌}
use Rattle.std.specs.List.{list_all, take_while, prefix_len, count_by}
use Rattle.std.proofs.lemmas.Bool.{and_parts}
use Rattle.std.proofs.lemmas.List.Sums.{sum_by-append}
use Rattle.std.proofs.Math.Seq.{take-append-add}

-- the text is a run of bytes that pass, and a rest that begins with none
pub record Run (p : ℕ → Bool) (text : List ℕ) : Type 0 where
  pub bytes : List ℕ
  pub rest : List ℕ
  pub is : text ≡ bytes ++ rest
  pub all : list_all p bytes ≡ true
  pub stop : (length rest ≡ 0) ⊎ (p (get_or rest 0 0) ≡ false)

module _ (p : ℕ → Bool) where
  -- a run with one more byte before it
  longer : (b : ℕ) (text : List ℕ) → p b ≡ true → Run p text → Run p (b ∷ text)
  longer b text h run = record {
    bytes = b ∷ run.bytes;
    rest = run.rest;
    is = ap (λ x. b ∷ x) run.is;
    all = rw (h, run.all) refl;
    stop = run.stop;
  }

  run_first : (b : ℕ) (bs : List ℕ) → Run p bs → (v : Bool) → p b ≡ v → Run p (b ∷ bs)
  run_first b bs run true e = longer b bs e run
  run_first b bs run false e = record { bytes = []; rest = b ∷ bs; is = refl; all = refl; stop = inr e }

  pub run_at : (text : List ℕ) → Run p text
  run_at [] = record { bytes = []; rest = []; is = refl; all = refl; stop = inl refl }
  run_at (b ∷ bs) = run_first b bs (run_at bs) (p b) refl

  -- each byte of a list passes
  pub passes : (xs : List ℕ) (t : ℕ) (ys : List ℕ) → list_all p (xs ++ t ∷ ys) ≡ true → p t ≡ true
  passes [] t ys h = (and_parts (p t) (list_all p ys) h).0
  passes (x ∷ xs) t ys h = passes xs t ys (and_parts (p x) (list_all p (xs ++ t ∷ ys)) h).1

  -- bytes that pass are counted before the others
  prefix_adds : (xs rest : List ℕ) → list_all p xs ≡ true → prefix_len p (xs ++ rest) ≡ length xs + prefix_len p rest
  prefix_adds [] rest h = omega arith
  prefix_adds (x ∷ xs) rest h =
      let (here, more) = and_parts (p x) (list_all p xs) h in
      rw here (omega (arith, prefix_adds xs rest more))

  -- the run at the front of a text holds as many bytes of a kind as each beginning of it, or more
  pub counted : (q : ℕ → Bool) (xs rest : List ℕ) → list_all p xs ≡ true
      → count_by q xs ≤ count_by q (take_while p (xs ++ rest))
  counted q xs rest h =
      let more = take (prefix_len p rest) rest in
      let whole : take_while p (xs ++ rest) ≡ xs ++ more = ap (λ n. take n (xs ++ rest)) (prefix_adds xs rest h)
      ∙ take-append-add xs rest (prefix_len p rest) in
      omega (arith, ap (count_by q) whole, sum_by-append (λ b. cond (q b) 1 0) xs more)

-- the byte after a list
pub at_seam : (xs : List ℕ) (t : ℕ) (ys : List ℕ) → get_or (xs ++ t ∷ ys) (length xs) 0 ≡ t
at_seam [] t ys = refl
at_seam (x ∷ xs) t ys = at_seam xs t ys
