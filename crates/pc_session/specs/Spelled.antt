-- For private clauses: values as bytes, whatever their depth.
use Rattle.std.specs.Prelude.{◌≡◌, ◌≤◌, ℕ, List, flat_map, Some, false}
use Rattle.std.specs.List.{AllZip}
use Rattle.serde_json.specs.Data.{Data, depth}
use Rattle.serde_json.specs.Read.{read, max_depth}
use Rattle.serde_json.specs.Written.{has_float, compact_text}
use Rattle.pc_wire.specs.Frames.{frame}

-- the text is the compact text of a value without floats, and reads back as a value that is not too deep
pub record IsSpelled (value : Data) (text : List ℕ) : Type 0 where
  pub compact : has_float value ≡ false → text ≡ compact_text value
  pub if_shallow : depth value ≤ max_depth → read text ≡ Some value

-- the bytes are the frames of texts that spell the values, one after the other
pub record AreSpelled (values : List Data) (bytes : List ℕ) : Type 0 where
  pub texts : List (List ℕ)
  pub each : AllZip IsSpelled values texts
  pub framed : bytes ≡ flat_map frame texts
