-- The limits of transactions, objects, logs and lent buffers. Each is written here and, in the code, at the type that it limits.
use Rattle.std.specs.Prelude.{ℕ, Option, None, Some}
use Rattle.words.specs.Tests.{◌below◌, ◌upto◌, ◌and◌, provided◌then◌else◌}
use Rattle.verdict.specs.declared.limits.Transaction.{Transaction}
use Rattle.verdict.specs.declared.limits.Object.{Object}
use Rattle.verdict.specs.declared.limits.Log.{Log}

-- transactions are 1..128
abbrev pub transactions : ℕ
transactions = 128

-- objects are 0..63
abbrev pub objects : ℕ
objects = 64

-- a log has at most 1,024 steps
abbrev pub most_steps : ℕ
most_steps = 1024

-- a witness buffer has 128 entries of three numbers, the order handed to "next" 128 plain numbers, and the work area 16,384 bytes
abbrev pub witness_buffer : ℕ
witness_buffer = 384

abbrev pub order_entries : ℕ
order_entries = transactions

abbrev pub work_bytes : ℕ
work_bytes = 16384

-- the exact search takes at most 8 committed transactions
abbrev pub most_searched : ℕ
most_searched = 8

-- what the code's constructors make of a number
unfoldable pub make_transaction : ℕ → Option Transaction
make_transaction n = provided 1 upto n and n upto transactions then Some (record { number = n }) else None

unfoldable pub make_object : ℕ → Option Object
make_object n = provided n below objects then Some (record { number = n }) else None

unfoldable pub make_log : ℕ → Option Log
make_log n = provided n upto most_steps then Some (record { steps = n }) else None
