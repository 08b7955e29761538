-- Maps that share their parts: a part that is put after the others leaves each map as it was.
use Rattle.std.proofs.Common.{◌≡◌, ◌<◌, ◌≤◌, ◌-◌, ◌/◌, ◌%◌, ◌==◌, ◌⊎◌, ℕ, zero, suc, List, [], ◌∷◌, ◌++◌, length, refl}
use Rattle.std.proofs.Common.{sym, ap, ◌∙◌, subst, inl, inr, arith, length-append}
use Rattle.std.specs.Prelude.{Bool, true, false, if◌then◌else◌, Option, Some, None, slice_index_or}
use Rattle.std.proofs.lemmas.Bool.{false≢true}
use Rattle.std.proofs.lemmas.List.{get_or_append_left, get_or_default}
use Rattle.std.proofs.Math.Seq.{get_or-append_seam}
use Rattle.std.proofs.lemmas.Bool.Decides.{nat_tests}
use Rattle.pc_shared_maps.specs.declared.shared.MapNode.{MapNode}
use Rattle.pc_shared_maps.specs.SharedMaps.{empty_node, node_at, way_in, way, next, held_along, held_at, HasSuccessorsIn, HasAllSuccessors}
use Rattle.pc_shared_maps.specs.SharedMaps.{KeepsMaps, HasBelow}

-- ---- ways

half_less : (k : ℕ) → k / 2 ≤ k
half_less k = omega arith

same_way : (n m k : ℕ) → k ≤ n → k ≤ m → way_in n k ≡ way_in m k
same_way zero zero k h g = refl
same_way zero (suc m) zero h g = refl
same_way zero (suc m) (suc k) h g = absurd (omega arith)
same_way (suc n) zero zero h g = refl
same_way (suc n) zero (suc k) h g = absurd (omega arith)
same_way (suc n) (suc m) zero h g = refl
same_way (suc n) (suc m) (suc k) h g = ap (λ w. (suc k % 2 == 1) ∷ w) (same_way n m (k / 2) (omega arith) (omega arith))

-- the way to a number from 1 on
way_on : (k : ℕ) → way (suc k) ≡ (suc k % 2 == 1) ∷ way (k / 2)
unfolding way
way_on k = ap (λ w. (suc k % 2 == 1) ∷ w) (same_way k (k / 2) (k / 2) (half_less k) (omega arith))

-- ---- the value at a number

pub held_first : (nodes : List MapNode) (map : ℕ) → held_at nodes map 0 ≡ (node_at nodes map).held
unfolding held_at way
held_first nodes map = refl

held_next : (nodes : List MapNode) (map k : ℕ) → held_at nodes map (suc k) ≡ held_at nodes
    (next (suc k % 2 == 1) (node_at nodes map)) (k / 2)
unfolding held_at
held_next nodes map k = ap (held_along nodes map) (way_on k)

-- the next step of a look-up
pub held_step : (nodes : List MapNode) (map key : ℕ) → 0 < key → held_at nodes map key ≡ held_at nodes
    (next (key % 2 == 1) (node_at nodes map)) ((key - 1) / 2)
held_step nodes map zero h = absurd (omega arith)
held_step nodes map (suc k) h = held_next nodes map k
    ∙ ap (λ n. held_at nodes (next (suc k % 2 == 1) (node_at nodes map)) (n / 2)) (omega arith)

-- the empty map has nothing
nothing_along : (w : List Bool) → held_along (empty_node ∷ []) 0 w ≡ None
nothing_along [] = refl
nothing_along (true ∷ w) = nothing_along w
nothing_along (false ∷ w) = nothing_along w

pub nothing_held : (key : ℕ) → held_at (empty_node ∷ []) 0 key ≡ None
unfolding held_at
nothing_held key = nothing_along (way key)

-- ---- a part more

module _ (nodes : List MapNode) (closed : HasAllSuccessors nodes) where
  pub node_kept : (more : List MapNode) (i : ℕ) → i < length nodes → node_at (nodes ++ more) i ≡ node_at nodes i
  node_kept more i h = get_or_append_left nodes more empty_node i h

  next_within : (b : Bool) (i : ℕ) → i < length nodes → next b (node_at nodes i) < length nodes
  next_within true i h = (closed i h).odd
  next_within false i h = (closed i h).even

  along_kept : (more : List MapNode) (w : List Bool) (i : ℕ) → i < length nodes → held_along (nodes ++ more) i w
      ≡ held_along nodes i w
  along_kept more [] i h = ap (λ (n : MapNode). n.held) (node_kept more i h)
  along_kept more (b ∷ w) i h = ap (λ (n : MapNode). held_along (nodes ++ more) (next b n) w) (node_kept more i h)
      ∙ along_kept more w (next b (node_at nodes i)) (next_within b i h)

  pub held_kept : (more : List MapNode) (map key : ℕ) → map < length nodes → held_at (nodes ++ more) map key
      ≡ held_at nodes map key
  unfolding held_at
  held_kept more map key h = along_kept more (way key) map h

  -- a node appended to the nodes: its own value, and the values of its successors
  module _ (node : MapNode) (within : HasSuccessorsIn nodes node) where
    new_node : node_at (nodes ++ node ∷ []) (length nodes) ≡ node
    new_node = get_or-append_seam nodes node [] empty_node

    pub new_first : held_at (nodes ++ node ∷ []) (length nodes) 0 ≡ node.held
    new_first = held_first (nodes ++ node ∷ []) (length nodes) ∙ ap (λ (n : MapNode). n.held) new_node

    next_new : (b : Bool) → next b node < length nodes
    next_new true = within.odd
    next_new false = within.even

    pub new_step : (key : ℕ) → 0 < key → held_at (nodes ++ node ∷ []) (length nodes) key ≡ held_at nodes
        (next (key % 2 == 1) node) ((key - 1) / 2)
    new_step key h = held_step (nodes ++ node ∷ []) (length nodes) key h
        ∙ ap (λ (n : MapNode). held_at (nodes ++ node ∷ []) (next (key % 2 == 1) n) ((key - 1) / 2)) new_node
        ∙ held_kept (node ∷ []) (next (key % 2 == 1) node) ((key - 1) / 2) (next_new (key % 2 == 1))

    within_more : (n : MapNode) → HasSuccessorsIn nodes n → HasSuccessorsIn (nodes ++ node ∷ []) n
    within_more n w = let e = length-append nodes (node ∷ []) in let o = w.odd in let v = w.even in
        record { odd = omega arith; even = omega arith }

    pub closed_more : HasAllSuccessors (nodes ++ node ∷ [])
    closed_more i h = go (i_cases i h)
      where
        i_cases : (i : ℕ) → i < length (nodes ++ node ∷ []) → (i < length nodes) ⊎ (i ≡ length nodes)
        i_cases i h = let e = length-append nodes (node ∷ []) in grind arith

        go : (i < length nodes) ⊎ (i ≡ length nodes) → HasSuccessorsIn (nodes ++ node ∷ []) (node_at (nodes ++ node ∷ []) i)
        go (inl l) = subst (HasSuccessorsIn (nodes ++ node ∷ [])) (sym (node_kept (node ∷ []) i l))
            (within_more (node_at nodes i) (closed i l))
        go (inr e) = subst (λ j. HasSuccessorsIn (nodes ++ node ∷ []) (node_at (nodes ++ node ∷ []) j)) (sym e)
            (subst (HasSuccessorsIn (nodes ++ node ∷ [])) (sym new_node) (within_more node within))

-- ---- a value put in

other_zero : (k : ℕ) → 0 < k → (k == 0) ≡ false
other_zero k h = grind (arith, nat_tests)

-- two numbers of the same parity are equal exactly if their halves are
halves : (k key : ℕ) → 0 < k → 0 < key → k % 2 ≡ key % 2 → (((k - 1) / 2) == ((key - 1) / 2)) ≡ (k == key)
halves k key h g e = grind (arith, nat_tests)

-- two numbers of different parity differ
others : (k key : ℕ) → (k % 2 ≡ key % 2 → ⊥) → (k == key) ≡ false
others k key n = go (k == key) refl
  where
    go : (b : Bool) → (k == key) ≡ b → (k == key) ≡ false
    go false e = e
    go true e = absurd (n (ap (λ i. i % 2) (grind (arith, nat_tests))))

-- numbers of one kind leave the same
kinds : (k key : ℕ) (b : Bool) → (k % 2 == 1) ≡ b → (key % 2 == 1) ≡ b → k % 2 ≡ key % 2
kinds k key true e f = grind (arith, nat_tests)
kinds k key false e f = grind (arith, nat_tests)

zero_other : (key : ℕ) → 0 < key → (0 == key) ≡ false
zero_other key h = grind (arith, nat_tests)

-- the part that is new, of a map that has a value at a number
abbrev pub IsPut : List MapNode → (map key value : ℕ) → List MapNode → ℕ → Type 0
IsPut old map key value nodes new = (k : ℕ) → held_at nodes new k ≡ (if k == key then Some value else held_at old map k)

-- at the number 0
pub put_zero : (old : List MapNode) → HasAllSuccessors old → (map key value : ℕ) (node : MapNode) → map < length old
    → node ≡ node_at old map → HasSuccessorsIn old node → key ≡ 0
    → (nodes : List MapNode) (new : ℕ) → nodes ≡ old ++ record { held = Some value; odd = node.odd; even = node.even } ∷ []
    → new ≡ length old → IsPut old map key value nodes new
put_zero old closed map key value node h is within zero_key nodes new e n k =
    ap (λ (l : List MapNode). held_at l new k) e ∙ ap (λ i. held_at (old ++ made ∷ []) i k) n ∙ go k
    ∙ sym (ap (λ i. if k == i then Some value else held_at old map k) zero_key)
  where
    made : MapNode
    made = record { held = Some value; odd = node.odd; even = node.even }

    made_within : HasSuccessorsIn old made
    made_within = record { odd = within.odd; even = within.even }

    same_next : (b : Bool) → next b made ≡ next b (node_at old map)
    same_next true = ap (λ (x : MapNode). x.odd) is
    same_next false = ap (λ (x : MapNode). x.even) is

    go : (k : ℕ) → held_at (old ++ made ∷ []) (length old) k ≡ (if k == 0 then Some value else held_at old map k)
    go zero = new_first old closed made made_within
    go (suc k) =
        new_step old closed made made_within (suc k) (omega arith)
        ∙ ap (λ i. held_at old i ((suc k - 1) / 2)) (same_next (suc k % 2 == 1))
        ∙ sym (held_step old map (suc k) (omega arith))
        ∙ sym (ap (λ b. if b then Some value else held_at old map (suc k)) (other_zero (suc k) (omega arith)))

-- after it, where the part of the number's kind was made anew
put_behind : (old mid : List MapNode) → HasAllSuccessors old → HasAllSuccessors mid → KeepsMaps old mid
    → (map key value part : ℕ) (node : MapNode) → map < length old → 0 < key
    → IsPut old (next (key % 2 == 1) (node_at old map)) ((key - 1) / 2) value mid part
    → node.held ≡ (node_at old map).held → next (key % 2 == 1) node ≡ part
    → ((b : Bool) → (b ≡ (key % 2 == 1) → ⊥) → next b node ≡ next b (node_at old map)) → HasSuccessorsIn mid node
    → IsPut old map key value (mid ++ node ∷ []) (length mid)
put_behind old mid closed closed' keeps map key value part node h pos is held this other within zero =
    new_first mid closed' node within ∙ held ∙ sym (held_first old map)
    ∙ sym (ap (λ b. if b then Some value else held_at old map 0) (zero_other key pos))
put_behind old mid closed closed' keeps map key value part node h pos is held this other within (suc k) =
    new_step mid closed' node within (suc k) (omega arith) ∙ go (suc k % 2 == 1) (key % 2 == 1) refl refl
  where
    same : (suc k % 2 == 1) ≡ (key % 2 == 1) → suc k % 2 ≡ key % 2 → held_at mid (next (suc k % 2 == 1) node)
        ((suc k - 1) / 2) ≡ (if suc k == key then Some value else held_at old map (suc k))
    same e f =
        ap (λ i. held_at mid i ((suc k - 1) / 2)) (ap (λ b. next b node) e ∙ this)
        ∙ is ((suc k - 1) / 2)
        ∙ ap (λ b. if b then Some value else held_at old (next (key % 2 == 1) (node_at old map)) ((suc k - 1) / 2))
        (halves (suc k) key (omega arith) pos f)
        ∙ ap (λ o. if suc k == key then Some value else o)
        (ap (λ b. held_at old (next b (node_at old map)) ((suc k - 1) / 2)) (sym e)
        ∙ sym (held_step old map (suc k) (omega arith)))

    differ : ((suc k % 2 == 1) ≡ (key % 2 == 1) → ⊥) → (suc k % 2 ≡ key % 2 → ⊥)
        → held_at mid (next (suc k % 2 == 1) node) ((suc k - 1) / 2)
        ≡ (if suc k == key then Some value else held_at old map (suc k))
    differ n f =
        ap (λ i. held_at mid i ((suc k - 1) / 2)) (other (suc k % 2 == 1) n)
        ∙ keeps.same (next (suc k % 2 == 1) (node_at old map)) ((suc k - 1) / 2)
        (next_within old closed (suc k % 2 == 1) map h)
        ∙ sym (held_step old map (suc k) (omega arith))
        ∙ sym (ap (λ b. if b then Some value else held_at old map (suc k)) (others (suc k) key f))

    go : (b c : Bool) → (suc k % 2 == 1) ≡ b → (key % 2 == 1) ≡ c → held_at mid (next (suc k % 2 == 1) node)
        ((suc k - 1) / 2) ≡ (if suc k == key then Some value else held_at old map (suc k))
    go true true e f = same (e ∙ sym f) (kinds (suc k) key true e f)
    go false false e f = same (e ∙ sym f) (kinds (suc k) key false e f)
    go true false e f = differ (λ x. false≢true (sym f ∙ sym x ∙ e))
        (λ x. false≢true (sym f ∙ ap (λ i. i == 1) (sym x) ∙ e))
    go false true e f = differ (λ x. false≢true (sym e ∙ x ∙ f)) (λ x. false≢true (sym e ∙ ap (λ i. i == 1) x ∙ f))

-- a value is put at an odd number by putting it into the odd part of the node, and at an even one likewise
pub put_odd : (old mid : List MapNode) → HasAllSuccessors old → HasAllSuccessors mid → KeepsMaps old mid
    → (map key value part : ℕ) (node : MapNode) → map < length old → 0 < key → (key % 2 == 1) ≡ true
    → node ≡ node_at old map → IsPut old node.odd ((key - 1) / 2) value mid part
    → HasSuccessorsIn mid (record { held = node.held; odd = part; even = node.even })
    → (nodes : List MapNode) (new : ℕ) → nodes ≡ mid ++ record { held = node.held; odd = part; even = node.even } ∷ []
    → new ≡ length mid → IsPut old map key value nodes new
put_odd old mid closed closed' keeps map key value part node h pos kind is put within nodes new e n k =
    ap (λ (l : List MapNode). held_at l new k) e ∙ ap (λ i. held_at (mid ++ made ∷ []) i k) n
    ∙ put_behind old mid closed closed' keeps map key value part made h pos
    (λ j. put j ∙ ap (λ i. if j == ((key - 1) / 2) then Some value else held_at old i j) (ap (λ (x : MapNode). x.odd) is
    ∙ sym (ap (λ b. next b (node_at old map)) kind)))
    (ap (λ (x : MapNode). x.held) is) (ap (λ b. next b made) kind) (λ b d. same_other b (λ t. d (t ∙ sym kind))) within k
  where
    made : MapNode
    made = record { held = node.held; odd = part; even = node.even }

    same_other : (b : Bool) → (b ≡ true → ⊥) → next b made ≡ next b (node_at old map)
    same_other true d = absurd (d refl)
    same_other false d = ap (λ (x : MapNode). x.even) is

pub put_even : (old mid : List MapNode) → HasAllSuccessors old → HasAllSuccessors mid → KeepsMaps old mid
    → (map key value part : ℕ) (node : MapNode) → map < length old → 0 < key → (key % 2 == 1) ≡ false
    → node ≡ node_at old map → IsPut old node.even ((key - 1) / 2) value mid part
    → HasSuccessorsIn mid (record { held = node.held; odd = node.odd; even = part })
    → (nodes : List MapNode) (new : ℕ) → nodes ≡ mid ++ record { held = node.held; odd = node.odd; even = part } ∷ []
    → new ≡ length mid → IsPut old map key value nodes new
put_even old mid closed closed' keeps map key value part node h pos kind is put within nodes new e n k =
    ap (λ (l : List MapNode). held_at l new k) e ∙ ap (λ i. held_at (mid ++ made ∷ []) i k) n
    ∙ put_behind old mid closed closed' keeps map key value part made h pos
    (λ j. put j ∙ ap (λ i. if j == ((key - 1) / 2) then Some value else held_at old i j) (ap (λ (x : MapNode). x.even) is
    ∙ sym (ap (λ b. next b (node_at old map)) kind)))
    (ap (λ (x : MapNode). x.held) is) (ap (λ b. next b made) kind) (λ b d. same_other b (λ t. d (t ∙ sym kind))) within k
  where
    made : MapNode
    made = record { held = node.held; odd = node.odd; even = part }

    same_other : (b : Bool) → (b ≡ false → ⊥) → next b made ≡ next b (node_at old map)
    same_other false d = absurd (d refl)
    same_other true d = ap (λ (x : MapNode). x.odd) is

-- ---- steps of the program

-- a part that was read is the one of its number
pub node_is : (nodes : List MapNode) (at : ℕ) (node : MapNode) → at < length nodes → node ≡ slice_index_or nodes at node
    → node ≡ node_at nodes at
node_is nodes at node h e = e ∙ get_or_default nodes at node empty_node h

-- one step of a look-up
pub step_to : (nodes : List MapNode) (at rest to : ℕ) (node : MapNode) (b : Bool) (o : Option ℕ) → 0 < rest
    → node ≡ node_at nodes at → (rest % 2 == 1) ≡ b → to ≡ next b node → held_at nodes at rest ≡ o
    → held_at nodes to ((rest - 1) / 2) ≡ o
step_to nodes at rest to node b o h is kind e held =
    ap (λ i. held_at nodes i ((rest - 1) / 2)) (e ∙ ap (next b) is ∙ ap (λ c. next c (node_at nodes at)) (sym kind))
    ∙ sym (held_step nodes at rest h) ∙ held

-- the end of a look-up
pub ends_at : (nodes : List MapNode) (at rest : ℕ) (node : MapNode) (o : Option ℕ) → rest ≤ 0 → node ≡ node_at nodes at
    → held_at nodes at rest ≡ o → node.held ≡ o
ends_at nodes at zero node o h is held = ap (λ (x : MapNode). x.held) is ∙ sym (held_first nodes at) ∙ held
ends_at nodes at (suc rest) node o h is held = absurd (omega arith)

-- a part more keeps each map
pub more_keeps : (nodes : List MapNode) → HasAllSuccessors nodes → (node : MapNode) (new : List MapNode) → new ≡ nodes ++ node ∷ []
    → KeepsMaps nodes new
more_keeps nodes closed node new e = subst (KeepsMaps nodes) (sym e) (record {
  more = let l = length-append nodes (node ∷ []) in omega arith;
  same = λ map key h. held_kept nodes closed (node ∷ []) map key h;
})

pub none_keeps : (nodes new : List MapNode) → new ≡ nodes → KeepsMaps nodes new
none_keeps nodes new e = subst (KeepsMaps nodes) (sym e) (record { more = omega arith; same = λ map key h. refl })

pub keeps_on : (a b c : List MapNode) → KeepsMaps a b → KeepsMaps b c → KeepsMaps a c
keeps_on a b c k l = let x = k.more in let y = l.more in record {
  more = omega arith;
  same = λ map key h. l.same map key (omega arith) ∙ k.same map key h;
}

-- ---- numbers below a limit

pub none_below : HasBelow 0 (empty_node ∷ [])
none_below = record {
  nothing = λ map key h g. ap (λ i. held_at (empty_node ∷ []) i key) (omega arith)
      ∙ nothing_held key;
}

apart : (k key limit : ℕ) → key < limit → limit ≤ k → (k == key) ≡ false
apart k key limit h g = grind (arith, nat_tests)

-- a map that is put in after the others
pub put_below : (old mid nodes : List MapNode) → HasAllSuccessors mid → (map key value new limit : ℕ) (node : MapNode)
    → nodes ≡ mid ++ node ∷ [] → new ≡ length mid → IsPut old map key value nodes new → map < length old → key < limit
    → HasBelow limit old → HasBelow limit mid → HasBelow limit nodes
put_below old mid nodes closed map key value new limit node e n put h less below below' =
    record { nothing = λ i k less' g. go i k less' g (cases i less') }
  where
    cases : (i : ℕ) → i < length nodes → (i < length mid) ⊎ (i ≡ length mid)
    cases i less' = let x = ap length e ∙ length-append mid (node ∷ []) in grind arith

    go : (i k : ℕ) → i < length nodes → limit ≤ k → (i < length mid) ⊎ (i ≡ length mid) → held_at nodes i k ≡ None
    go i k less' g (inl l) = ap (λ (x : List MapNode). held_at x i k) e ∙ held_kept mid closed (node ∷ []) i k l
        ∙ below'.nothing i k l g
    go i k less' g (inr l) = ap (λ j. held_at nodes j k) (l ∙ sym n) ∙ put k
        ∙ ap (λ b. if b then Some value else held_at old map k) (apart k key limit less g) ∙ below.nothing map k h g
