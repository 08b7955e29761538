-- There is a refusal here.
use Rattle.std.proofs.Common.{◌≡◌, ℕ, ◌+◌, List, drop, arith}
use Rattle.pc_source.specs.Answers.{OnRefusal}
use Rattle.pc_source.specs.declared.fault.Fault.{Fault}
use Rattle.pc_source.specs.declared.fault.Fault.TheVariants as fault
use Rattle.pc_source.specs.declared.fault.RefusalCode.{RefusalCode}
use Rattle.pc_token.specs.Context.{LexicalContext}
use Rattle.pc_token.specs.Faults.{IsFault}
use Rattle.pc_token.specs.Internal.LineReading.{IsRefusedHere}

module _ (c : LexicalContext) (text : List ℕ) (code : RefusalCode) (byte : ℕ) (r : Fault)
    (is : r ≡ fault.Refused (record { code = code; byte = byte })) where
  -- some bytes further on
  pub refused_after : (k : ℕ) → byte ≡ c.at + k → IsFault c (drop c.at text) code k → OnRefusal (IsRefusedHere c text) r
  refused_after k e h = rw is (k, e, h)

  -- at this very byte
  pub refused_here : byte ≡ c.at → IsFault c (drop c.at text) code 0 → OnRefusal (IsRefusedHere c text) r
  refused_here e h = refused_after 0 (omega arith) h
