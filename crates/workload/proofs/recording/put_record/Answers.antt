-- `workload::recording::put_record`: the fields of each call are its record. Assumes nothing.
use Rattle.std.proofs.Common.{rules}
use Rattle.workload.proofs.Writers.{length_allocate, length_free, length_store, allocate_put, free_put, store_put}
use Rattle.workload.proofs.recording.put_record.Goals as goal

pub returns-in-Allocate : goal.returns-in-Allocate
returns-in-Allocate c = search (rules, length_allocate, allocate_put)

pub returns-in-Free : goal.returns-in-Free
returns-in-Free c = search (rules, length_free, free_put)

pub returns-in-Store : goal.returns-in-Store
returns-in-Store c = search (rules, length_store, store_put)
