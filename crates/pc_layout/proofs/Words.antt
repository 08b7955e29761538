-- Reading a line's words one after another.
use Rattle.std.proofs.Common.{◌≡◌, ℕ, ◌<◌, ◌+◌, ◌&&◌, Bool, List, None, length, map, drop, get_or, Bor, add-one}
use Rattle.std.proofs.Math.Seq.{drop-cons}
use Rattle.std.specs.Str.{bytes_eq}
use Rattle.pc_token.specs.declared.token.Token.{Token}
use Rattle.pc_token.specs.Lexeme.{lexeme_of, form_of}
use Rattle.pc_layout.specs.Placing.{is_spelled, exclusion, first_excluded}

pub spelled_at : (ts : List (Token (Bor (List ℕ)))) (ws : List (Bor (List ℕ))) (i : ℕ) (t : Token (Bor (List ℕ)))
    (w : Bor (List ℕ)) → i < length ts → i < length ws →
    is_spelled (map lexeme_of (drop i ts)) (map (λ (w : Bor (List ℕ)). w.now) (drop i ws))
    ≡ bytes_eq (form_of (get_or ts i t).text.now (get_or ts i t).form) (get_or ws i w).now && is_spelled
    (map lexeme_of (drop (i + 1) ts)) (map (λ (w : Bor (List ℕ)). w.now) (drop (i + 1) ws))
spelled_at ts ws i t w h k = rw (drop-cons ts i t h, drop-cons ws i w k, add-one)

pub excluded_at : (header : Bool) (ts : List (Token (Bor (List ℕ)))) (i : ℕ) (t : Token (Bor (List ℕ))) → i < length ts
    → exclusion header (get_or ts i t).kind ≡ None →
    first_excluded header (map lexeme_of (drop i ts)) ≡ first_excluded header (map lexeme_of (drop (i + 1) ts))
excluded_at header ts i t h e = rw (drop-cons ts i t h, e, add-one)
