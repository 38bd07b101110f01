-- What may be asked of a disk, what calls tell of refusals, and the invariant that they keep.
pub mod PermittedChanges
pub mod UntornDisk
pub mod DiskInvariantUnderCalls
pub mod ToldRefusals
