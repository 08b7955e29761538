-- The exit status of the server. Own rule of the server.
use Rattle.std.specs.Prelude.{ℕ}
use Rattle.pc_message_loop.specs.declared.serving.ServingEnd.{ServingEnd}
use Rattle.pc_message_loop.specs.declared.serving.ServingEnd.TheVariants.{Exited, Ended, Broken, Failed}

-- the exit status: that of `exit`, 0 at the end of the input, 1 if the input is broken, 3 if a device or memory failed
abbrev pub status : ServingEnd → ℕ
status (Exited number) = number
status Ended = 0
status (Broken fault) = 1
status Failed = 3
