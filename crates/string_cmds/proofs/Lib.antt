mod KeysOnce
mod Counting
