mod Exports
