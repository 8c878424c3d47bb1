-- The numbers of a fault's parts, and the faults that a store's causes make. Assumes nothing.
use Rattle.std.specs.Prelude.{◌≡◌, ℕ, ◌<◌, Some, None, Option}
use Rattle.resources.specs.declared.cause.Cause.{Cause}
use Rattle.resources.specs.Causes.{cause_number}
use Rattle.spill_pool.specs.declared.fault.Layer.{Layer}
use Rattle.spill_pool.specs.declared.fault.Layer.TheVariants.{Feed, Store}
use Rattle.spill_pool.specs.declared.fault.StoreCall.{StoreCall}
use Rattle.spill_pool.specs.declared.fault.StoreCall.TheVariants.{NoCall, Create, Append, Finish, Read}
use Rattle.spill_pool.specs.declared.fault.Fault.{Fault}

abbrev pub layer_number : Layer → ℕ
layer_number Feed = 1
layer_number Store = 2

abbrev pub call_number : StoreCall → ℕ
call_number NoCall = 0
call_number Create = 1
call_number Append = 2
call_number Finish = 3
call_number Read = 4

-- the file on which a call was made, if it was made on one
abbrev pub call_file : Layer → StoreCall → ℕ → Option ℕ
call_file Feed call file = None
call_file Store NoCall file = None
call_file Store Create file = None
call_file Store Append file = Some file
call_file Store Finish file = Some file
call_file Store Read file = Some file

abbrev pub file_of : Fault → Option ℕ
file_of f = call_file f.layer f.call f.file

-- a store's call on a file failed with a cause
abbrev pub store_fault : ℕ → StoreCall → ℕ → Cause → Fault
store_fault p call file c = record { layer = Store; partition = p; call = call; file = file; cause = cause_number c }

-- what a pool tells of: a call of the store failed, which is named, on a file, but for create
abbrev pub OfCall : Fault → Type 0
OfCall f = (f.layer ≡ Store) × (0 < call_number f.call) × (f.call ≡ Create → f.file ≡ 0)

-- a feed failed with a cause
abbrev pub feed_fault : ℕ → ℕ → Fault
feed_fault p cause = record { layer = Feed; partition = p; call = NoCall; file = 0; cause = cause }
