use Rattle.mvm_outside.proofs.memory_store.MemoryStoreStore.read_file.Goals as goal

pub returns-clause-fails : goal.returns-clause-fails
returns-clause-fails c = rw (← c.self.view_is) (λ failing.
    let found = rw c.as_slice.ensures at c.contains.ensures.value in
    let no = rw c.if-contains.false at found in
    let wrong = rw (← no) at failing in
    cc)
