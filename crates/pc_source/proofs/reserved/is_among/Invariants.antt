use Rattle.std.proofs.Common.{◌≡◌, drop, map}
use Rattle.std.specs.Prelude.{bytes_eq}
use Rattle.std.specs.List.{list_any}
use Rattle.pc_source.proofs.reserved.is_among.Given as goal

abbrev pub invariant-loop-other : goal.invariant-loop-other
invariant-loop-other l = list_any (λ n. bytes_eq l.name n) (map (λ n. n.now) (drop l.other-index l.names))
    ≡ list_any (λ n. bytes_eq l.name n) (map (λ n. n.now) l.names)
