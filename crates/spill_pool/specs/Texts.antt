-- What faults and the answers of pushes print. Assumes nothing.
use Rattle.std.specs.Prelude.{ℕ, List, ◌++◌, Some, None, codes}
use Rattle.std.specs.Fmt.{decimal}
use Rattle.spill_pool.specs.declared.fault.Layer.{Layer}
use Rattle.spill_pool.specs.declared.fault.Layer.TheVariants as layers
use Rattle.spill_pool.specs.declared.fault.StoreCall.{StoreCall}
use Rattle.spill_pool.specs.declared.fault.StoreCall.TheVariants as calls
use Rattle.spill_pool.specs.declared.fault.Fault.{Fault}
use Rattle.spill_pool.specs.declared.Push.{Push}
use Rattle.spill_pool.specs.declared.Push.TheVariants as pushes

abbrev pub call_text : StoreCall → List ℕ
call_text calls.NoCall = codes "no call"
call_text calls.Create = codes "create"
call_text calls.Append = codes "append"
call_text calls.Finish = codes "finish"
call_text calls.Read = codes "read"

abbrev pub layer_text : Layer → List ℕ
layer_text layers.Feed = codes "the feed"
layer_text layers.Store = codes "the store"

-- what failed: the layer where no call did, else the call, and the file on which it was made
abbrev pub failed_text : Layer → StoreCall → ℕ → List ℕ
failed_text layers.Feed call file = layer_text layers.Feed
failed_text layers.Store calls.NoCall file = layer_text layers.Store
failed_text layers.Store calls.Create file = call_text calls.Create
failed_text layers.Store calls.Append file = call_text calls.Append ++ codes " to file " ++ decimal file
failed_text layers.Store calls.Finish file = call_text calls.Finish ++ codes " of file " ++ decimal file
failed_text layers.Store calls.Read file = call_text calls.Read ++ codes " of file " ++ decimal file

abbrev pub subject_text : Fault → List ℕ
subject_text f = failed_text f.layer f.call f.file

abbrev pub fault_text : Fault → List ℕ
fault_text f = subject_text f ++ codes " fails, cause " ++ decimal f.cause

abbrev pub push_text : Push → List ℕ
push_text pushes.Skipped = codes "skipped"
push_text (pushes.Kept None) = codes "kept"
push_text (pushes.Kept (Some f)) = codes "kept, but " ++ fault_text f
push_text (pushes.Failed f) = codes "not kept, " ++ fault_text f
