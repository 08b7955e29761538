-- The end of a line is behind its tokens, and by the first line feed behind them.
use Rattle.std.proofs.Common.{◌≡◌, ◌≤◌, ◌<◌, ◌+◌, ◌-◌, ℕ, zero, suc, List, [], ◌∷◌, ◌++◌, length, Bool as Test}
use Rattle.std.proofs.Common.{true, false}
use Rattle.std.proofs.Common.{refl, sym, subst, inl, inr, arith, length-append, drop, if◌then◌else◌}
use Rattle.std.proofs.lemmas.Bool.Decides.{leb_tells}
use Rattle.std.proofs.lemmas.List.{length-drop}
use Rattle.std.specs.List.{position_or_len}
use Rattle.std.specs.Option.{option_map_or}
use Rattle.std.specs.Prelude.{◌⊎◌, Some, None, not, nat_lt, ◌==◌, ◌&&◌, slice_index, cond}
use Rattle.pc_layout.specs.Flat.{line_feed_from, line_end}

-- a byte is a line feed
abbrev is_feed : ℕ → Test
is_feed b = b == 10

lt_means : (a b : ℕ) → nat_lt a b ≡ true → a < b
lt_means a b e = by_tells (leb_tells (suc a) b)
  where
    by_tells : ((nat_lt a b ≡ true) × (suc a ≤ b)) ⊎ ((nat_lt a b ≡ false) × (b < suc a)) → a < b
    by_tells (inl x) = let y = x.1 in omega (arith, y)
    by_tells (inr x) = let other = x.0 in cc

-- where the line feed is
by_place : (text : List ℕ) (from : ℕ) (P : ℕ → Type 0)
    → (length (drop from text) ≤ position_or_len is_feed (drop from text) → P (length text))
    → (position_or_len is_feed (drop from text) < length (drop from text)
    → P (from + position_or_len is_feed (drop from text)))
    → P (line_feed_from text from)
by_place text from P none some = go (leb_tells (suc k) (length (drop from text)))
  where
    k : ℕ
    k = position_or_len is_feed (drop from text)

    feed : Test → ℕ
    feed t = option_map_or (λ n. from + n) (cond t (Some k) None) (length text)

    go : ((nat_lt k (length (drop from text)) ≡ true) × (suc k ≤ length (drop from text)))
        ⊎ ((nat_lt k (length (drop from text)) ≡ false) × (length (drop from text) < suc k))
        → P (line_feed_from text from)
    go (inl x) = subst (λ (t : Test). P (feed t)) (sym x.0) (some x.1)
    go (inr x) = let y = x.1 in subst (λ (t : Test). P (feed t)) (sym x.0) (none (omega (arith, y)))

feed_behind : (text : List ℕ) (from : ℕ) → from ≤ length text → from ≤ line_feed_from text from
feed_behind text from le = by_place text from (λ n. from ≤ n) (λ h. le) (λ h. omega arith)

feed_within : (text : List ℕ) (from : ℕ) → from ≤ length text → line_feed_from text from ≤ length text
feed_within text from le = by_place text from (λ n. n ≤ length text) (λ h. omega arith)
    (λ h. let e = length-drop from text in omega (arith, h, e, le))

-- the first line feed is by any one
first : (before rest : List ℕ) (from : ℕ) → from ≤ length before
    → position_or_len is_feed (drop from (before ++ 10 ∷ rest)) + from ≤ length before
first [] rest zero le = omega arith
first [] rest (suc n) le = absurd (omega (arith, le))
first (b ∷ before) rest zero le = let least : 0 ≤ length before = omega arith in
    go (not (is_feed b)) (first before rest zero least)
  where
    go : (t : Test) → position_or_len is_feed (before ++ 10 ∷ rest) + 0 ≤ length before
        → cond t (1 + position_or_len is_feed (before ++ 10 ∷ rest)) 0 + 0 ≤ suc (length before)
    go true h = omega (arith, h)
    go false h = omega arith
first (b ∷ before) rest (suc n) le = let less : n ≤ length before = omega (arith, le) in
    let h = first before rest n less in omega (arith, h)

feed_by : (before rest : List ℕ) (from : ℕ) → from ≤ length before
    → line_feed_from (before ++ 10 ∷ rest) from ≤ length before
feed_by before rest from le =
    let text = before ++ 10 ∷ rest in
    let h = first before rest from le in
    let a = length-drop from text in
    let b = length-append before (10 ∷ rest) in
    by_place text from (λ n. n ≤ length before) (λ g. absurd (omega (arith, a, b, g, h))) (λ g. omega (arith, h))

-- ---- the place of the end of a line

-- the end of a line that is looked for from a byte on is between it and another byte
pub record EndsWithin (text : List ℕ) (from to : ℕ) : Type 0 where
  pub low : from ≤ (line_end text from).start
  pub order : (line_end text from).start ≤ (line_end text from).end
  pub high : (line_end text from).end ≤ to

begins : (b c d : Test) (from feed : ℕ) → (c ≡ true → from < feed) → from ≤ feed
    → from ≤ (if b && (c && d) then feed - 1 else feed)
begins true true true from feed h le = let lt = h refl in omega (arith, lt)
begins true true false from feed h le = le
begins true false d from feed h le = le
begins false c d from feed h le = le

shorter : (b c : Test) (feed : ℕ) → (if b && c then feed - 1 else feed) ≤ (if b then feed + 1 else feed)
shorter true true feed = omega arith
shorter true false feed = omega arith
shorter false c feed = omega arith

longer : (b : Test) (feed to : ℕ) → (b ≡ true → feed < to) → feed ≤ to → (if b then feed + 1 else feed) ≤ to
longer true feed to h le = let lt = h refl in omega (arith, lt)
longer false feed to h le = le

end_within : (text : List ℕ) (from to : ℕ) → from ≤ length text
    → (nat_lt (line_feed_from text from) (length text) ≡ true → line_feed_from text from < to)
    → line_feed_from text from ≤ to → EndsWithin text from to
end_within text from to le high at_most =
    let feed = line_feed_from text from in record {
      low = begins (nat_lt feed (length text)) (nat_lt from feed) (slice_index text (feed - 1) == 13) from feed
          (lt_means from feed) (feed_behind text from le);
      order = shorter (nat_lt feed (length text)) (nat_lt from feed && slice_index text (feed - 1) == 13) feed;
      high = longer (nat_lt feed (length text)) feed to high at_most;
    }

-- at the end of the text
pub ends_in_text : (text : List ℕ) (from : ℕ) → from ≤ length text → EndsWithin text from (length text)
ends_in_text text from le = end_within text from (length text) le
    (lt_means (line_feed_from text from) (length text)) (feed_within text from le)

-- by a line feed
pub ends_by_feed : (text before rest : List ℕ) (from : ℕ) → text ≡ before ++ 10 ∷ rest → from ≤ length before
    → EndsWithin text from (length before + 1)
ends_by_feed text before rest from e le = subst (λ (t : List ℕ). EndsWithin t from (length before + 1)) (sym e) whole
  where
    by_feed : line_feed_from (before ++ 10 ∷ rest) from ≤ length before
    by_feed = feed_by before rest from le

    within : from ≤ length (before ++ 10 ∷ rest)
    within = let a = length-append before (10 ∷ rest) in omega (arith, a, le)

    whole : EndsWithin (before ++ 10 ∷ rest) from (length before + 1)
    whole = let h = by_feed in end_within (before ++ 10 ∷ rest) from (length before + 1) within
        (λ t. omega (arith, h)) (omega (arith, h))
