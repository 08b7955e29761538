-- Rows of shared chunks: the contents of copies, and one local read or changed.
use Rattle.std.proofs.Common.{◌≡◌, ◌<◌, ◌≤◌, ◌+◌, ◌*◌, ◌-◌, ◌/◌, ◌%◌, ℕ, zero, suc, List, [], ◌∷◌, ◌++◌, Option, Some}
use Rattle.std.proofs.Common.{None, length, refl, sym, ap, subst, ◌∙◌, arith, get_or, take, length-append, add-one}
use Rattle.std.specs.Prelude.{All, map, slice_set, flat_map, replicate}
use Rattle.std.specs.List.{AllZip}
use Rattle.std.specs.Option.{option_map}
use Rattle.std.proofs.lemmas.List.{get_or_append_left, get_or-append-add, get_or-take, set-append_left}
use Rattle.std.proofs.lemmas.List.{set-append_right, replicate-append-replicate, take-replicate, length-take-le}
use Rattle.std.proofs.lemmas.List.{length-replicate}
use Rattle.std.proofs.lemmas.List.Elements.{All-head, All-tail, All-cons, All-weaker}
use Rattle.std.proofs.lemmas.Slice.Zip.{AllZip-long}
use Rattle.std.proofs.Math.Nat.{div-add-mod, div-lt_iff_lt-mul, mod-lt, mul-suc, mul-zero, mul_comm}
use Rattle.std.proofs.Math.Seq.{take-set-lt}
use Rattle.pc_flow.specs.Chunks.{chunk_types, row_types, IsRow}

module _ {A B : Type 0} (value : A → B) (R : Option A → Option A → Type 0) where
  -- a copy of a local's type, which holds the same one
  pub copied : ((a : A) → R None (Some a) → ⊥) → ((a : A) → R (Some a) None → ⊥)
      → ((a b : A) → R (Some a) (Some b) → value b ≡ value a) → (x y : Option A) → R x y
      → option_map value y ≡ option_map value x
  copied f g h None None r = refl
  copied f g h None (Some b) r = absurd (f b r)
  copied f g h (Some a) None r = absurd (g a r)
  copied f g h (Some a) (Some b) r = ap Some (h a b r)

  -- copies of the types of a chunk
  pub chunk_copied : ((x y : Option A) → R x y → option_map value y ≡ option_map value x) → (xs ys : List (Option A))
      → AllZip R xs ys → chunk_types value ys ≡ chunk_types value xs
  chunk_copied f [] [] r = refl
  chunk_copied f [] (y ∷ ys) r = absurd r
  chunk_copied f (x ∷ xs) [] r = absurd r
  chunk_copied f (x ∷ xs) (y ∷ ys) r = rw (f x y r.0, chunk_copied f xs ys r.1) refl

-- as many locals without a type
pub map_nothing : {A B : Type 0} (f : A → B) (a : A) (n : ℕ) → map f (replicate n a) ≡ replicate n (f a)
map_nothing f a zero = refl
map_nothing f a (suc n) = ap (λ l. f a ∷ l) (map_nothing f a n)

module _ {C X : Type 0} (types : C → List X) (size : ℕ) where
  -- a row of chunks has as many locals as they have
  pub row_length : (cs : List C) → All (λ c. length (types c) ≡ size) cs → length (flat_map types cs) ≡ size * length cs
  row_length [] f = sym (mul-zero size)
  row_length (c ∷ cs) f = let e = All-head (λ d. length (types d) ≡ size) c cs f in let i =
      row_length cs (All-tail (λ d. length (types d) ≡ size) c cs f) in
      omega (arith, length-append (types c) (flat_map types cs), mul-suc size (length cs))

  -- a local of a row stands in one of its chunks
  pub row_get : (cs : List C) (q r : ℕ) (c : C) (d : X) → All (λ c. length (types c) ≡ size) cs → q < length cs
      → r < size → get_or (flat_map types cs) (size * q + r) d ≡ get_or (types (get_or cs q c)) r d
  row_get [] q r c d f l s = absurd (omega arith)
  row_get (b ∷ cs) zero r c d f l s =
      let e = All-head (λ c. length (types c) ≡ size) b cs f in
      let i : size * 0 + r ≡ r = omega (arith, mul-zero size) in
      ap (λ n. get_or (types b ++ flat_map types cs) n d) i ∙ get_or_append_left (types b) (flat_map types cs) d r
      (omega arith)
  row_get (b ∷ cs) (suc q) r c d f l s =
      let e = All-head (λ c. length (types c) ≡ size) b cs f in
      let i : size * suc q + r ≡ length (types b) + (size * q + r) = omega (arith, mul-suc size q) in
      ap (λ n. get_or (types b ++ flat_map types cs) n d) i
      ∙ (get_or-append-add (types b) (flat_map types cs) (size * q + r) d
      ∙ row_get cs q r c d (All-tail (λ c. length (types c) ≡ size) b cs f) (omega arith) s)

  -- a local of a row is changed where it is changed in its chunk
  pub row_set : (cs : List C) (q r : ℕ) (c n : C) (x : X) → All (λ c. length (types c) ≡ size) cs → q < length cs
      → r < size → types n ≡ slice_set (types (get_or cs q c)) r x → flat_map types (slice_set cs q n)
      ≡ slice_set (flat_map types cs) (size * q + r) x
  row_set [] q r c n x f l s e = absurd (omega arith)
  row_set (b ∷ cs) zero r c n x f l s e =
      let k = All-head (λ c. length (types c) ≡ size) b cs f in
      let i : size * 0 + r ≡ r = omega (arith, mul-zero size) in
      ap (λ t. t ++ flat_map types cs) e ∙ sym (ap (λ j. slice_set (types b ++ flat_map types cs) j x) i
      ∙ set-append_left (types b) (flat_map types cs) r x (omega arith))
  row_set (b ∷ cs) (suc q) r c n x f l s e =
      let k = All-head (λ c. length (types c) ≡ size) b cs f in
      let i : (size * suc q + r) - size ≡ size * q + r = omega (arith, mul-suc size q) in
      ap (λ t. types b ++ t) (row_set cs q r c n x (All-tail (λ c. length (types c) ≡ size) b cs f) (omega arith) s e)
      ∙ sym (set-append_right (types b) (flat_map types cs) size (size * suc q + r) x k (omega (arith, mul-suc size q))
      ∙ ap (λ j. types b ++ slice_set (flat_map types cs) j x) i)

  -- a row of which no local is assigned
  pub row_empty : (x : X) (cs : List C) → All (λ c. types c ≡ replicate size x) cs
      → flat_map types cs ≡ replicate (size * length cs) x
  row_empty x [] f = ap (λ n. replicate n x) (sym (mul-zero size))
  row_empty x (c ∷ cs) f =
      let i : size + size * length cs ≡ size * length (c ∷ cs) = omega (arith, mul-suc size (length cs)) in
      rw (
        All-head (λ c. types c ≡ replicate size x) c cs f,
        row_empty x cs
            (All-tail (λ c. types c ≡ replicate size x) c cs f),
      )
      (replicate-append-replicate size (size * length cs) x ∙ ap (λ n. replicate n x) i)

  -- a chunk replaced by one of the same types
  row_same : (cs : List C) (q : ℕ) (c n : C) → types n ≡ types (get_or cs q c) → flat_map types (slice_set cs q n)
      ≡ flat_map types cs
  row_same [] q c n e = refl
  row_same (b ∷ cs) zero c n e = ap (λ t. t ++ flat_map types cs) e
  row_same (b ∷ cs) (suc q) c n e = ap (λ t. types b ++ t) (row_same cs q c n e)

  -- chunks that have the same types
  same_chunks : (xs ys : List C) → AllZip (λ x y. types y ≡ types x) xs ys → flat_map types ys ≡ flat_map types xs
  same_chunks [] [] r = refl
  same_chunks [] (y ∷ ys) r = absurd r
  same_chunks (x ∷ xs) [] r = absurd r
  same_chunks (x ∷ xs) (y ∷ ys) r = rw (r.0, same_chunks xs ys r.1) refl

  same_sizes : (xs ys : List C) → AllZip (λ x y. types y ≡ types x) xs ys → All (λ c. length (types c) ≡ size) xs
      → All (λ c. length (types c) ≡ size) ys
  same_sizes [] [] r f = f
  same_sizes [] (y ∷ ys) r f = absurd r
  same_sizes (x ∷ xs) [] r f = absurd r
  same_sizes (x ∷ xs) (y ∷ ys) r f =
      All-cons (λ c. length (types c) ≡ size) y ys (ap length r.0 ∙ All-head (λ c. length (types c) ≡ size) x xs f)
      (same_sizes xs ys r.1 (All-tail (λ c. length (types c) ≡ size) x xs f))

  empty_sizes : (x : X) (cs : List C) → All (λ c. types c ≡ replicate size x) cs → All (λ c. length (types c) ≡ size) cs
  empty_sizes x cs f = All-weaker (λ c. types c ≡ replicate size x) (λ c. length (types c) ≡ size)
      (λ c e. ap length e ∙ length-replicate size x) cs f

  module _ (n : ℕ) (cs : List C) where
    pub row_first : IsRow types size n cs → length (row_types types n cs) ≡ n
    row_first w = let e = row_length cs w.full in let r = w.room in length-take-le n (flat_map types cs) (omega arith)

    -- the chunk of a local of a row is one of its chunks, and it stands in that chunk
    pub chunk_is : (x : ℕ) → IsRow types size n cs → x < n → x / size < length cs
    chunk_is x w l = let r = w.room in let k = w.wide in (div-lt_iff_lt-mul (omega arith)).1
        (omega (arith, mul_comm size (length cs)))

    place_is : (x : ℕ) → IsRow types size n cs → x % size < size
    place_is x w = let k = w.wide in mod-lt x (omega arith)

    -- a local of a row
    pub row_current : (x : ℕ) (c : C) (d : X) → IsRow types size n cs → x < n → get_or (row_types types n cs) x d
        ≡ get_or (types (get_or cs (x / size) c)) (x % size) d
    row_current x c d w l =
        let i = div-add-mod x size in
        get_or-take n (flat_map types cs) x d l ∙ (ap (λ i. get_or (flat_map types cs) i d) (sym i)
        ∙ row_get cs (x / size) (x % size) c d w.full (chunk_is x w l) (place_is x w))

    pub row_assign : (x : ℕ) (c m : C) (v : X) → IsRow types size n cs → x < n
        → types m ≡ slice_set (types (get_or cs (x / size) c)) (x % size) v
        → row_types types n (slice_set cs (x / size) m) ≡ slice_set (row_types types n cs) x v
    row_assign x c m v w l e =
        let i = div-add-mod x size in
        ap (take n) (row_set cs (x / size) (x % size) c m v w.full (chunk_is x w l) (place_is x w) e
        ∙ ap (λ i. slice_set (flat_map types cs) i v) i) ∙ take-set-lt n (flat_map types cs) x v l

    pub row_unchanged : (q : ℕ) (c m : C) → types m ≡ types (get_or cs q c) → row_types types n (slice_set cs q m)
        ≡ row_types types n cs
    row_unchanged q c m e = ap (take n) (row_same cs q c m e)

    -- copies of the chunks of a row
    module _ (ds : List C) (r : AllZip (λ x y. types y ≡ types x) cs ds) where
      pub row_copied : row_types types n ds ≡ row_types types n cs
      row_copied = ap (take n) (same_chunks cs ds r)

      pub copied_row : IsRow types size n cs → IsRow types size n ds
      copied_row w = record {
        full = same_sizes cs ds r w.full;
        wide = w.wide;
        room =
            subst (λ k. n ≤ size * k) (sym (AllZip-long (λ x y. types y ≡ types x) cs ds r)) w.room;
      }

    -- a row of which no local is assigned
    module _ (x : X) (k : 1 ≤ size) (f : All (λ c. types c ≡ replicate size x) cs) (e : length cs ≡ n / size + 1) where
      room_for : n ≤ size * length cs
      room_for =
          let i = div-add-mod n size in
          let m : n % size < size = mod-lt n (omega arith) in
          let j : size * length cs ≡ size * (n / size) + size = ap (λ k. size * k) e
          ∙ ap (λ k. size * k) (add-one (n / size)) ∙ mul-suc size (n / size) in
          omega arith

      pub new_row : IsRow types size n cs
      new_row = record { full = empty_sizes x cs f; wide = k; room = room_for }

      pub row_new : row_types types n cs ≡ replicate n x
      row_new = ap (take n) (row_empty x cs f) ∙ take-replicate n (size * length cs) x room_for
