use Rattle.std.proofs.Common.{◌≡◌, map, drop}
use Rattle.std.specs.List.{list_all}
use Rattle.pc_scope.specs.Resolution.{index_of}
use Rattle.pc_class.specs.Listings.{listed_in}
use Rattle.pc_class.specs.Listed.{names_listed}
use Rattle.pc_rules.specs.Calls.{is_free}
use Rattle.pc_calls.proofs.listed.are_free.Given as goal

abbrev pub invariant-loop-i : goal.invariant-loop-i
invariant-loop-i g l = list_all (λ word. is_free l.given.positional (index_of word (names_listed (listed_in l.params))))
    (map (λ k. k.now) (drop l.i l.names)) ≡ list_all (λ word. is_free l.given.positional
    (index_of word (names_listed (listed_in l.params)))) (map (λ k. k.now) l.names)
